-- The shape of a page table. Assumes nothing.
use mathlib.Core.Path.{◌≡◌, refl, ◌∙◌}
use mathlib.Core.Bool.{Bool, true, false, cond, ◌||◌}
use Prim.Native.Nat.{ℕ, ◌+◌, ◌-◌, ◌*◌, ◌%◌, ◌^◌, ◌≤◌, ◌<◌}
use native.Mathlib.Nat.{mod-eq_of_lt, lt_of_lt_of_le}
use native.Mathlib.Omega.{arith}
use lib.Bits.{bit_and, and_mask}
use lib.Dec.{eqb}
use lib.Pow.{pow_pos, pow_mono}
use borrow.Author.Tests.{lt-leb, le-leb}
use borrow.Author.Tests.{eqb-true}
use Rattle.std.specs.Prelude.{Some, None, Result, Ok, Err}
use Rattle.std.specs.Result.{result_ok}
use Rattle.kinds.specs.Number.{page_bits}
use Rattle.kinds.specs.Codes.{size_of, unnamed}
use Rattle.kinds.specs.declared.number.Unnamed.{Unnamed}
use Rattle.kinds.proofs.Powers.{eight_shl}
use Rattle.kinds.proofs.Tests.{and_false, by_cases, clash}
use Rattle.kinds.specs.declared.number.ByteAddress.{ByteAddress}
use Rattle.kinds.specs.declared.number.PageSize.{PageSize}
use Rattle.kinds.specs.declared.number.PageSize.TheVariants.{K4, K64, M16, M256}
use Rattle.kinds.specs.declared.record.TranslationEntry.{TranslationEntry}
use Rattle.profile.specs.Entry.{offset_bits, most_table_code, most_levels, span, code_bits, page_size, aligned, pages_good}
use Rattle.dma_pages.specs.Shape.{shape_of}

abbrev pub known : TranslationEntry → Bool
known e = eqb e.page 1 || eqb e.page 5 || eqb e.page 13 || eqb e.page 17

-- the page code: size_of gives the page size of a known one, and no other
sized : (a b c d : Bool) → (a || b || c || d) ≡ true → cond a (Ok K4) (cond b (Ok K64) (cond c (Ok M16) (cond d (Ok M256) unnamed))) ≡ Ok (cond a K4 (cond b K64 (cond c M16 M256)))
sized true _ _ _ z = refl
sized false true _ _ z = refl
sized false false true _ z = refl
sized false false false true z = refl
sized false false false false z = cc

none : (a b c d : Bool) → (a || b || c || d) ≡ false → cond a (Ok K4) (cond b (Ok K64) (cond c (Ok M16) (cond d (Ok M256) unnamed))) ≡ unnamed {X = PageSize}
none true _ _ _ z = cc
none false true _ _ z = cc
none false false true _ z = cc
none false false false true z = cc
none false false false false z = refl

pub known_page : (e : TranslationEntry) {s : PageSize} → Ok s ≡ size_of e.page → (known e ≡ true) × (page_size e ≡ s)
unfolding page_size
known_page e z =
    by_cases (known e)
    (λ t. let y = sized (eqb e.page 1) (eqb e.page 5) (eqb e.page 13) (eqb e.page 17) t in (t, cc))
    (λ t. let y = none (eqb e.page 1) (eqb e.page 5) (eqb e.page 13) (eqb e.page 17) t in cc)

pub unknown_page : (e : TranslationEntry) {r : Unnamed} → Err r ≡ size_of e.page → known e ≡ false
unknown_page e z =
    by_cases (known e)
    (λ t. let y = sized (eqb e.page 1) (eqb e.page 5) (eqb e.page 13) (eqb e.page 17) t in cc)
    (λ t. t)

was_ok : (r : Result PageSize Unnamed) {s : PageSize} → Some s ≡ result_ok r → Ok s ≡ r
was_ok (Ok x) y = cc
was_ok (Err x) y = cc

pub sized-by : (e : TranslationEntry) {r : Result PageSize Unnamed} → r ≡ size_of e.page → {s : PageSize} → Some s ≡ result_ok r → Ok s ≡ size_of e.page
sized-by e {r} asks is = was_ok r is ∙ asks

was_err : (r : Result PageSize Unnamed) → None ≡ result_ok r → (x : Unnamed) × (Err x ≡ r)
was_err (Ok x) y = cc
was_err (Err x) y = (x, refl)

pub known_size : (e : TranslationEntry) {s : PageSize} → Some s ≡ result_ok (size_of e.page) → (known e ≡ true) × (page_size e ≡ s)
known_size e is = known_page e (sized-by e refl is)

pub unknown_size : (e : TranslationEntry) → None ≡ result_ok (size_of e.page) → known e ≡ false
unknown_size e is = let w = was_err (size_of e.page) is in unknown_page e w.1

-- `shape_of`: the last tests
module _ (e : TranslationEntry) (small : e.table ≤ most_table_code) (some : 1 ≤ e.levels) (few : e.levels ≤ most_levels)
    {s : PageSize} (z : Ok s ≡ size_of e.page) {b : ℕ} (bits : b ≡ page_bits s) where
  span-is : span e ≡ b + e.levels * (e.table + code_bits)
  unfolding span
  span-is = rw ((known_page e z).1, bits)

  pub wide : offset_bits < b + e.levels * (e.table + code_bits) → None ≡ shape_of e
  unfolding pages_good
  wide h = rw (le-leb _ _ small, (known_page e z).0, le-leb _ _ some, le-leb _ _ few, span-is, lt-leb _ _ h, and_false)

  module _ {ok : Bool} (base : ok ≡ aligned (e.table + code_bits) (record { 0 = e.base })) where
    pub unaligned : ok ≡ false → None ≡ shape_of e
    unfolding pages_good
    unaligned t = rw (le-leb _ _ small, (known_page e z).0, le-leb _ _ some, le-leb _ _ few, ← base, t)

    pub shaped : b + e.levels * (e.table + code_bits) ≤ offset_bits → ok ≡ true → Some (record { size = s; span = b + e.levels * (e.table + code_bits) }) ≡ shape_of e
    unfolding pages_good
    shaped fit t = rw (le-leb _ _ small, (known_page e z).0, le-leb _ _ some, le-leb _ _ few, ← base, t, span-is, le-leb _ _ fit, (known_page e z).1)

-- no page size has code 0
pub no_bypass : (e : TranslationEntry) → pages_good e ≡ true → eqb e.page 0 ≡ false
unfolding pages_good
no_bypass e g = by_cases (eqb e.page 0) (λ b. clash g (rw (eqb-true e.page 0 b))) (λ b. b)

-- `aligned`
module _ {n : ℕ} (few : n ≤ 60) where
  pub table-bytes : 1 ≤ 8 * 2 ^ n % 2 ^ 64
  table-bytes = rw (eight_shl n (omega arith)) (pow_pos (3 + n))

  pub multiple : (b : ByteAddress) → eqb (bit_and b.0 (8 * 2 ^ n % 2 ^ 64 - 1)) 0 ≡ aligned n b
  unfolding aligned
  multiple b = rw (eight_shl n (omega arith), and_mask b.0 (3 + n))

-- a table of more bytes than addresses is at 0
pub at_zero : (n : ℕ) → 60 < n → (b : ByteAddress) → b.0 < 2 ^ 64 → eqb b.0 0 ≡ aligned n b
unfolding aligned
at_zero n h b fits = rw (mod-eq_of_lt (lt_of_lt_of_le fits (pow_mono {i = 64} {j = 3 + n} (omega arith))))
