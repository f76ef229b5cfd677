-- A translation: by the last table word, by what the walk found, and by the entry. Assumes nothing.
use mathlib.Core.Path.{◌≡◌, sym, ◌∙◌}
use mathlib.Core.Bool.{Bool, true}
use Prim.Native.Nat.{ℕ, ◌*◌, ◌%◌, ◌^◌, ◌<◌}
use native.Mathlib.Nat.{mod-eq_of_lt}
use borrow.Author.Tests.{leb-true}
use Rattle.kinds.specs.Number.{page_number, byte_address}
use Rattle.kinds.proofs.NumberLaws.{byte_fits}
use Rattle.kinds.proofs.Tests.{all_true}
use Rattle.kinds.specs.declared.number.ByteAddress.{ByteAddress}
use Rattle.kinds.specs.declared.number.PageSize.{PageSize}
use Rattle.kinds.specs.declared.record.TranslationEntry.{TranslationEntry}
use Rattle.profile.specs.Entry.{index_bits, offset_bits, walkable_tests, walkable, most_table_code, most_levels}
use Rattle.dma_walk.specs.Turn.{Shaped}

-- `land`: the address is not cut
pub lands : (s : PageSize) (w : ℕ) (o : ByteAddress) → w < 2 ^ 64 → (byte_address s (page_number s (record { 0 = w })) o).0 % 2 ^ 64 ≡ (byte_address s (page_number s (record { 0 = w })) o).0
lands s w o h = mod-eq_of_lt (byte_fits s w o h)

-- `walk_page`
walkable-shaped : (e : TranslationEntry) → walkable e ≡ true → Shaped e
unfolding walkable
walkable-shaped e s = record {
  table = leb-true e.table most_table_code (all_true (walkable_tests e) 0 s);
  levels = leb-true e.levels most_levels (all_true (walkable_tests e) 1 s);
  indexes = leb-true (index_bits e * e.levels) offset_bits (all_true (walkable_tests e) 2 s);
  base = all_true (walkable_tests e) 3 s;
}

pub page_shaped : (e : TranslationEntry) {ok : Bool} → ok ≡ walkable e → ok ≡ true → Shaped e
page_shaped e asks t = walkable-shaped e (sym asks ∙ t)
