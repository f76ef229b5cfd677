-- What an entry says before memory is read. Assumes nothing.
use mathlib.Core.Path.{◌≡◌}
use mathlib.Core.Bool.{true, ◌&&◌}
use Prim.Native.Nat.{◌*◌, ◌/◌, ◌%◌, ◌^◌, ◌≤◌, ◌<◌}
use native.Mathlib.Omega.{arith}
use lib.Dec.{leb, ltb}
use borrow.Author.Tests.{lt-ltb, le-ltb, lt-leb, le-leb, leb-true, ltb-true, leb-false, ltb-false}
use Rattle.std.specs.Prelude.{Some, Ok, Err}
use Rattle.kinds.proofs.Powers.{one_shl}
use Rattle.kinds.proofs.Tests.{by_cases}
use Rattle.kinds.specs.declared.answer.Reason.TheVariants.{BadEntry, OutsideWindow}
use Rattle.kinds.specs.declared.number.ByteAddress.{ByteAddress}
use Rattle.kinds.specs.declared.record.TranslationEntry.{TranslationEntry}
use Rattle.profile.specs.Entry.{page_size, span, bypass_good, pages_good, in_bypass, most_table_code}
use Rattle.dma_pages.specs.Shape.{shape_of}
use Rattle.dma_pages.specs.declared.page_tables.Shape.{Shape}
use Rattle.dma_entry.proofs.AskLaws.{good-span}
use Rattle.dma_entry.specs.Ask.{asked_bypass}
use Rattle.dma_entry.specs.declared.ask.Way.TheVariants.{Bypass}

-- `ask_bypass`: the range by its units
pub in_units : (e : TranslationEntry) (o : ByteAddress) → in_bypass e o ≡ (leb e.base (o.0 / 2 ^ 24) && ltb (o.0 / 2 ^ 24) e.levels)
unfolding in_bypass
in_units e o =
    by_cases (leb e.base (o.0 / 2 ^ 24))
    (λ s. let b = leb-true _ _ s in by_cases (ltb (o.0 / 2 ^ 24) e.levels)
    (λ t. let d = ltb-true _ _ t in rw (s, t, le-leb (e.base * 2 ^ 24) o.0 (omega arith), lt-ltb o.0 (e.levels * 2 ^ 24) (omega arith)))
    (λ t. let d = ltb-false _ _ t in rw (s, t, le-leb (e.base * 2 ^ 24) o.0 (omega arith), le-ltb o.0 (e.levels * 2 ^ 24) (omega arith))))
    (λ s. let b = leb-false _ _ s in rw (s, lt-leb (e.base * 2 ^ 24) o.0 (omega arith)))

-- and its five returns, each with the tests that lead to it: the entry has no range, or one that ends too late; the offset is below the start, at the end
-- or past it, or in the range
module _ (e : TranslationEntry) (o : ByteAddress) where
  pub no_range : e.levels ≤ e.base → Err BadEntry ≡ asked_bypass e o
  unfolding bypass_good
  no_range h = rw (le-ltb _ _ h)

  module _ (some : e.base < e.levels) where
    pub late-end : 2 ^ 35 < e.levels → Err BadEntry ≡ asked_bypass e o
    unfolding bypass_good
    late-end h = rw (lt-ltb _ _ some, lt-leb _ _ h)

    module _ (most : e.levels ≤ 2 ^ 35) where
      good_range : bypass_good e ≡ true
      unfolding bypass_good
      good_range = rw (lt-ltb _ _ some, le-leb _ _ most)

      pub below-start : o.0 / 2 ^ 24 < e.base → Err OutsideWindow ≡ asked_bypass e o
      below-start h = rw (good_range, in_units e o, lt-leb _ _ h)

      module _ (start : e.base ≤ o.0 / 2 ^ 24) where
        pub at-end : e.levels ≤ o.0 / 2 ^ 24 → Err OutsideWindow ≡ asked_bypass e o
        at-end h = rw (good_range, in_units e o, le-leb _ _ start, le-ltb _ _ h)

        pub in_range : o.0 / 2 ^ 24 < e.levels → Ok Bypass ≡ asked_bypass e o
        in_range h = rw (good_range, in_units e o, le-leb _ _ start, lt-ltb _ _ h)

-- `ask_pages`: the shape of an entry whose table code is small
module _ (e : TranslationEntry) {x : Shape} where
  good-is : Some x ≡ shape_of e → pages_good e ≡ true
  good-is z = by_cases (leb e.table most_table_code) (λ s. by_cases (pages_good e) (λ t. t) (λ t. let y = rw (s, t) at z in cc)) (λ s. let y = rw s at z in cc)

  shape_is : Some x ≡ shape_of e → Some x ≡ Some (record { size = page_size e; span = span e })
  shape_is z = by_cases (leb e.table most_table_code) (λ s. let y = rw (s, good-is z) at z in y) (λ s. let y = rw s at z in cc)

  span-is : Some x ≡ shape_of e → span e ≡ x.span
  span-is z = let y = shape_is z in cc

  pub span_below : Some x ≡ shape_of e → x.span < 64
  span_below z = omega (arith, good-span e (good-is z), span-is z)

  pub span_end : Some x ≡ shape_of e → 1 * 2 ^ x.span % 2 ^ 64 ≡ 2 ^ span e
  span_end z = rw (span-is z) (one_shl x.span (span_below z))
