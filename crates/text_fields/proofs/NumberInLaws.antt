-- What the number in a field is proved from, a law to a `return` or a turn: a number, from digit i on. Assumes nothing.
use Rattle.std.specs.Prelude.{◌≡◌, Bool, true, false, List, ℕ, zero, suc, eqb, ◌+◌, ◌*◌, ◌^◌, ◌≤◌, ◌<◌, ltb, length, drop, get_or, Option, None, Some, refl}
use Rattle.std.proofs.Common.{sym, ◌∙◌, arith, add-one, drop_of_length-le, drop-cons, le-leb, ltb-true, ltb-false, eqb-true}
use Rattle.std.proofs.Math.Pow.{pow_mono}
use Rattle.std.proofs.lemmas.Bool.{lt-leb, lt-ltb, le-ltb}
use Rattle.std.proofs.lemmas.Nat.{pow-add}
use Rattle.kinds.proofs.Tests.{by_cases, clash}
use Rattle.replay_text.specs.Field.{digit_of, number_from, number_of}
use Rattle.text_fields.specs.Fields.{digit_in}

-- the value of a digit
digit_some : (b d : ℕ) → digit_in b ≡ Some d → (d ≡ digit_of b) × (d < 16)
digit_some b d e =
    by_cases (ltb (digit_of b) 16)
    (λ o. let z : ◌≡◌ {A = Option ℕ} (Some (digit_of b)) (Some d) = rw o at e in
    let y : digit_of b ≡ d = cc in (sym y, let h = ltb-true (digit_of b) 16 o in omega (arith, h, y)))
    (λ o. let z : ◌≡◌ {A = Option ℕ} None (Some d) = rw o at e in let y : ◌≡◌ {A = ℕ} 0 1 = cc in absurd (omega arith))

digit_none : (b : ℕ) → digit_in b ≡ None → 16 ≤ digit_of b
digit_none b e =
    by_cases (ltb (digit_of b) 16)
    (λ o. let z : ◌≡◌ {A = Option ℕ} (Some (digit_of b)) None = rw o at e in let y : ◌≡◌ {A = ℕ} 0 1 = cc in absurd (omega arith))
    (λ o. ltb-false (digit_of b) 16 o)

not_zero : (n : ℕ) → eqb n 0 ≡ false → 1 ≤ n
not_zero zero e = clash refl e
not_zero (suc n) e = omega arith

module _ (l : List ℕ) where
  pub number_empty : {b : Bool} → b ≡ eqb (length l) 0 → b ≡ true → None ≡ number_of l
  unfolding number_of
  number_empty e o = let z = eqb-true (length l) 0 (sym e ∙ o) in rw (lt-leb 1 (length l) (omega (arith, z))) refl

  pub number_long : {b : Bool} → b ≡ eqb (length l) 0 → b ≡ false → 16 < length l → None ≡ number_of l
  unfolding number_of
  number_long e o k = rw (le-leb 1 (length l) (omega arith), lt-leb (length l) 16 k) refl

  pub begins : {b : Bool} → b ≡ eqb (length l) 0 → b ≡ false → 1 ≤ length l
  begins e o = not_zero (length l) (sym e ∙ o)

  pub number_start : 1 ≤ length l → length l ≤ 16 → number_of l ≡ number_from 0 l
  unfolding number_of
  number_start h k = rw (le-leb 1 (length l) h, le-leb (length l) 16 k) refl

  module _ (v i : ℕ) (same : number_of l ≡ number_from v (drop i l)) where
    pub number_bad : {o : Option ℕ} → i < length l → o ≡ digit_in (get_or l i 0) → o ≡ None → None ≡ number_of l
    unfolding number_from
    number_bad h e n = let b = digit_none (get_or l i 0) (sym e ∙ n) in rw (same, drop-cons l i 0 h, le-ltb (digit_of (get_or l i 0)) 16 b) refl

    pub number_next : {o : Option ℕ} {d : ℕ} → i < length l → o ≡ digit_in (get_or l i 0) → o ≡ Some d → number_of l ≡ number_from (v * 16 + d) (drop (i + 1) l)
    unfolding number_from
    number_next {d = d} h e n =
        let b = digit_some (get_or l i 0) d (sym e ∙ n) in
        same ∙ rw (drop-cons l i 0 h, ← b.0, lt-ltb d 16 b.1, add-one) refl

    pub number_end : length l ≤ i → Some v ≡ number_of l
    unfolding number_from
    number_end h = rw (same, drop_of_length-le l h) refl

-- one digit more: v is of i digits
module _ (v i : ℕ) (h : v < 2 ^ (4 * i)) where
  pub digit_more : (d : ℕ) → d < 16 → v * 16 + d < 2 ^ (4 * (i + 1))
  digit_more d k =
      let e : 4 * (i + 1) ≡ 4 * i + 4 = omega arith in
      rw (e, pow-add 2 (4 * i) 4) (omega arith)

  pub more : (b : ℕ) {o : Option ℕ} {d : ℕ} → o ≡ digit_in b → o ≡ Some d → v * 16 + d < 2 ^ (4 * (i + 1))
  more b {d = d} e n = digit_more d (digit_some b d (sym e ∙ n)).1

  module _ (l : List ℕ) (k : i < length l) (g : length l ≤ 16) where
    below : v < 2 ^ 60
    below = let m = pow_mono {i = 4 * i} {j = 60} (omega arith) in omega arith

    pub shifts : v * 16 < 2 ^ 64
    shifts = omega (arith, below)

    pub fits : {o : Option ℕ} {d : ℕ} → o ≡ digit_in (get_or l i 0) → o ≡ Some d → v * 16 + d < 2 ^ 64
    fits {d = d} e n = let z = digit_some (get_or l i 0) d (sym e ∙ n) in omega (arith, below, z.1)
