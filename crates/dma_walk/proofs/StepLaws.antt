-- What one level of a walk is proved from: shifts and masks, and one turn. Assumes nothing.
use Rattle.kinds.specs.Lookup.{frame, forbidden, outside}
use Rattle.std.specs.Prelude.{◌≡◌, refl, Bool, true, false, cond, ℕ, zero, suc, ◌+◌, ◌-◌, ◌*◌, ◌/◌, ◌%◌, ◌^◌, ◌≤◌, ◌<◌, length, List}
use Rattle.std.proofs.Math.Path.{sym}
use Rattle.std.proofs.Common.{ap, ◌∙◌, mod-lt, mod-eq_of_lt, mul_assoc, mul_comm, arith, Fits, pow-add, pow_pos}
use Rattle.std.proofs.Math.Nat.{div-add-mod'}
use Rattle.std.specs.Int.{w64}
use Rattle.std.specs.Int.Bits.{bit_and}
use Rattle.kinds.specs.Number.{word_bytes, word_address}
use Rattle.kinds.specs.Words.{at}
use borrow.Author.Tests.{lt-ltb, le-ltb, ne_eqb, eqb-true}
use Rattle.kinds.proofs.Powers.{one_shl_pos, masked, mod_lt_pow, cleared, joined-fits}
use Rattle.kinds.specs.declared.number.ByteAddress.{ByteAddress}
use Rattle.kinds.specs.declared.number.PageNumber.{PageNumber}
use Rattle.profile.specs.Entry.{aligned, most_table_code, code_bits}
use Rattle.profile.specs.Walk.{place, next_base, leads}
use Rattle.dma_walk.specs.Turn.{Level, ends, next, stepped}
use Rattle.std.specs.Prelude.{Ok}

module _ {n : ℕ} (few : n ≤ most_table_code + code_bits) where
  pub table-words : 1 ≤ 1 * 2 ^ n % 2 ^ 64
  table-words = one_shl_pos n (omega arith)

  pub place-fits : (b x : ℕ) → b < 2 ^ 64 → Fits w64 (b / 8 + bit_and x (1 * 2 ^ n % 2 ^ 64 - 1))
  place-fits b x h = omega (arith, masked x n (omega arith), mod_lt_pow x n (most_table_code + code_bits) few)

  pub placed : (k : ℕ) (b : ByteAddress) (q : PageNumber) → b.0 / 8 + bit_and (q.0 / 2 ^ (n * k)) (1 * 2 ^ n % 2 ^ 64 - 1) ≡ place k n b q
  placed k b q = rw (masked (q.0 / 2 ^ (n * k)) n (omega arith))

pub base-is : (w : ℕ) → w < 2 ^ 64 → ◌≡◌ {A = ByteAddress} (record { 0 = w / 4096 * 4096 % 2 ^ 64 }) (next_base w)
base-is w h = rw (cleared w 12 h)

-- the address of a word of a table that is aligned
module _ {n : ℕ} (few : n ≤ most_table_code + code_bits) (b : ByteAddress) (whole : aligned n b ≡ true) where
  -- the base is that of a table, and of a word
  base-table : b.0 / 2 ^ (3 + n) * 2 ^ (3 + n) ≡ b.0
  unfolding aligned
  base-table = omega (arith, eqb-true (b.0 % 2 ^ (3 + n)) 0 whole, div-add-mod' b.0 (2 ^ (3 + n)))

  base-words : b.0 ≡ b.0 / 2 ^ (3 + n) * 2 ^ n * word_bytes
  base-words = let t = b.0 / 2 ^ (3 + n) in sym base-table ∙ ap (λ (x : ℕ). t * x) (pow-add 2 3 n ∙ mul_comm 8 (2 ^ n)) ∙ sym (mul_assoc t (2 ^ n) 8)

  pub word_below : b.0 < 2 ^ 64 → (k : ℕ) (q : PageNumber) {p : ℕ} → p ≡ place k n b q → p * word_bytes < 2 ^ 64
  word_below h k q here =
      let x = q.0 / 2 ^ (n * k) % 2 ^ n in
      let less : x < 2 ^ n = mod-lt (q.0 / 2 ^ (n * k)) (pow_pos n) in
      let inside : x * 8 < 2 ^ (3 + n) = rw (pow-add 2 3 n) (omega arith) in
      let sum : b.0 + x * 8 < 2 ^ 64 = rw (← base-table, ← mod-eq_of_lt inside) (joined-fits b.0 (x * 8) (3 + n) (omega arith) h) in
      omega (arith, base-words, here)

-- `turn`: the last word
pub lowest : (k n j w : ℕ) → k ≡ 0 → next k n j w ≡ ends (frame (word_address j) w) 1
unfolding next
lowest k n j w z = rw z

pub last_word : (k n j w : ℕ) {a : ByteAddress} → k ≡ 0 → a ≡ word_address j → ends (frame a w) 1 ≡ next k n j w
unfolding next
last_word k n j w z e = rw (z, e)

-- and an upper word
pub upper : (k n j w : ℕ) → (k ≡ 0 → ⊥) → next k n j w ≡ cond (leads n w) (Ok (next_base w)) (ends (forbidden (word_address j)) 1)
unfolding next
upper zero n j w up = absurd (up refl)
upper (suc k) n j w up = refl

module _ (k n j w : ℕ) (up : k ≡ 0 → ⊥) where
  pub no_rights : w % 4 ≡ 0 → {x : Level} → x ≡ ends (forbidden (word_address j)) 1 → x ≡ next k n j w
  unfolding leads
  no_rights z f = f ∙ sym (upper k n j w up ∙ rw z)

  module _ (rights : w % 4 ≡ 0 → ⊥) {b : ByteAddress} (e : b ≡ next_base w) {ok : Bool} (whole : ok ≡ aligned n b) where
    pub leads-on : ok ≡ true → Ok b ≡ next k n j w
    unfolding leads
    leads-on t = sym (upper k n j w up ∙ rw (ne_eqb _ _ rights, ← e, ← whole, t))

    pub misaligned : ok ≡ false → {x : Level} → x ≡ ends (forbidden (word_address j)) 1 → x ≡ next k n j w
    unfolding leads
    misaligned t f = f ∙ sym (upper k n j w up ∙ rw (ne_eqb _ _ rights, ← e, ← whole, t))

-- `step`
module _ (m : List ℕ) (k n : ℕ) (b : ByteAddress) (q : PageNumber) {p : ℕ} (here : p ≡ place k n b q) where
  pub past_memory : length m ≤ p → {a : ByteAddress} → a ≡ word_address p → ends (outside a) 0 ≡ stepped m k n b q
  unfolding stepped
  past_memory h e = rw (e, ← here, le-ltb _ _ h)

  pub read : p < length m → {x : Level} → x ≡ next k n p (at m p) → x ≡ stepped m k n b q
  unfolding stepped
  read h f = f ∙ rw (← here, lt-ltb _ _ h)
