-- The marks that are made from the tables of a level are those of the words that walks read from there on.
--     Free g c q          page q is not one of the c pages from g
--     Led, Own            how a table was led to: by pages of other upper levels than those of page g, or by those that have them
--     marks-kept          a mark stays; length_marks: and the length
--     read-marked         A WORD THAT A WALK READS HAS A MARK
--     marked-read         A WORD THAT HAS A MARK IS READ BY A WALK; R q i is said of what the walk of page q reads
-- Assumes nothing.
use Rattle.std.specs.Prelude.{◌≡◌, ◌⊎◌, leb, ltb, eqb, replicate}
use Rattle.std.proofs.Math.Path.{refl, ap}
use Rattle.std.proofs.Common.{sym, subst, ◌∙◌, mul-one, mul-zero, mul-suc, mul_assoc, arith, pow_pos, pow-add}
use Rattle.std.proofs.Math.Bool.{true}
use mathlib.Core.List.{List, Memᴰ}
use Rattle.std.proofs.Math.Logic.{inl, inr, ⊎_elim}
use Prim.Native.Nat.{ℕ, zero, suc, ◌+◌, ◌-◌, ◌*◌, ◌/◌, ◌%◌, ◌^◌, ◌<◌, ◌≤◌}
use Rattle.std.proofs.Math.Nat.{mod-lt}
use Rattle.std.proofs.Math.ListN.{length, length-replicate}
use Rattle.std.proofs.Math.Pow.{high, low}
use Rattle.std.proofs.lemmas.Nat.{shl-shr}
use borrow.Author.Tests.{ltb-true, leb-true, leb-false, eqb-true, eqb-false, lt-ltb}
use Rattle.kinds.proofs.Tests.{by_cases, clash}
use Rattle.kinds.specs.Words.{at}
use Rattle.kinds.specs.declared.number.ByteAddress.{ByteAddress}
use Rattle.kinds.specs.declared.number.PageNumber.{PageNumber}
use Rattle.profile.specs.Walk.{place, next_base, leads, walk_from}
use Rattle.profile.proofs.WalkLaws.{walk_suc, walk-cases, first_read, later-read}
use Rattle.isolation_reach.specs.Marks.{index_of, first_of, leads_to, within, marked_in, tables_over, tables_under, marks_from}
use Rattle.isolation_groups.specs.Mark.{any_mark}
use Rattle.isolation_reach.proofs.PutLaws.{marked-below, none-marked, length_puts, puts_kept, puts_put, puts_cases}
use Rattle.isolation_reach.proofs.TableLaws.{index_place, first-place, whole-place, lead_aligned, lead_is, lead_cases, within-table, within_here, within-cases, up, part, page_zero}

abbrev pub Free : (first count page : ℕ) → Type 0
Free g c q = g ≤ q → q < g + c → ⊥

module _ (m : List ℕ) (n g c : ℕ) where
  pub marks-kept : (k : ℕ) (t : List ℕ) (x : ℕ) (r : List ℕ) (i : ℕ) → any_mark r i ≡ true → any_mark (marks_from m n g c k t x r) i ≡ true
  unfolding marks_from marked_in
  marks-kept zero t x r i h = puts_kept (within t n x (index_of n zero g) c) (λ j. j) r (length m) i h
  marks-kept (suc k) t x r i h = marks-kept k _ _ _ i (puts_kept (within t n x (index_of n (suc k) g) 0) (λ j. j) r (length m) i h)

  pub length_marks : (k : ℕ) (t : List ℕ) (x : ℕ) (r : List ℕ) → length (marks_from m n g c k t x r) ≡ length r
  unfolding marks_from marked_in
  length_marks zero t x r = length_puts (within t n x (index_of n zero g) c) (λ j. j) r (length m)
  length_marks (suc k) t x r = length_marks k _ _ _ ∙ length_puts (within t n x (index_of n (suc k) g) 0) (λ j. j) r (length m)

  -- ---- a walk reads a word

  -- page q is in a table that starts at word f, with k levels below: one that is marked, or the one at x
  abbrev Inside : List ℕ → (table below page first : ℕ) → Type 0
  Inside t x k q f = (any_mark t f ≡ true) ⊎ ((f ≡ x) × (q / 2 ^ (n * suc k) ≡ g / 2 ^ (n * suc k)))

  read-inside : (k : ℕ) (b : ByteAddress) (q : PageNumber) (i : ℕ) → Memᴰ i (walk_from m (suc k) n b q).reads → place k n b q < length m
  read-inside k b q i h =
      by_cases (ltb (place k n b q) (length m)) (λ o. ltb-true _ _ o)
      (λ o. absurd (mathlib.Core.List.Memᴰ.not-nil (rw o at (rw (walk_suc m k n b q) at h))))

  below-place : (k : ℕ) (b : ByteAddress) (q : PageNumber) (i : ℕ) → Memᴰ i (walk_from m (suc k) n b q).reads → b.0 / 8 < length m
  below-place k b q i h = omega (arith, read-inside k b q i h)

  length_marked : (t : List ℕ) (x d : ℕ) (r : List ℕ) → length (marked_in (length m) t n x d 0 r) ≡ length r
  unfolding marked_in
  length_marked t x d r = length_puts (within t n x d 0) (λ j. j) r (length m)

  module _ (t : List ℕ) (x k : ℕ) (b : ByteAddress) (q : PageNumber) (whole : b.0 / 8 % 2 ^ n ≡ 0) (here : Inside t x k q.0 (b.0 / 8)) where
    index_small : index_of n k q.0 < 2 ^ n
    index_small = mod-lt (q.0 / 2 ^ (n * k)) (pow_pos n)

    first-is : first_of n (place k n b q) ≡ b.0 / 8
    first-is = first-place n (b.0 / 8) (index_of n k q.0) whole index_small

    index_is : place k n b q % 2 ^ n ≡ index_of n k q.0
    index_is = index_place n (b.0 / 8) (index_of n k q.0) whole index_small

    inside-within : (e : ℕ) → (q.0 / 2 ^ (n * suc k) ≡ g / 2 ^ (n * suc k) → index_of n k g ≤ index_of n k q.0 → index_of n k g + e ≤ index_of n k q.0)
        → within t n x (index_of n k g) e (place k n b q) ≡ true
    inside-within e f =
        ⊎_elim
        (λ o. within-table t n x (index_of n k g) e (place k n b q) (rw first-is o))
        (λ o. within_here t n x (index_of n k g) e (place k n b q) (first-is ∙ o.0) (rw index_is (f o.1)))
        here

    upper-marked : (r : List ℕ) (e : ℕ) → within t n x (index_of n k g) e (place k n b q) ≡ true → place k n b q < length m → length r ≡ length m
        → any_mark (marked_in (length m) t n x (index_of n k g) e r) (place k n b q) ≡ true
    unfolding marked_in
    upper-marked r e o h l = puts_put (within t n x (index_of n k g) e) (λ j. j) r (length m) (place k n b q) h o (rw l h)

    -- page q at the next level
    next-inside : (p : ℕ) → k ≡ suc p → place k n b q < length m → leads n (at m (place k n b q)) ≡ true → (next_base (at m (place k n b q))).0 / 8 < length m
        → Inside (tables_under m t n x (index_of n k g)) (leads_to m n (x + index_of n k g)) p q.0 ((next_base (at m (place k n b q))).0 / 8)
    unfolding tables_over
    next-inside p e h o l =
        let j = place k n b q in
        let d = index_of n k g in
        let is = lead_is m n j h o in
        let marks : within t n x d 1 j ≡ true → any_mark (tables_under m t n x d) ((next_base (at m j)).0 / 8) ≡ true =
        λ w. rw (← is)
        (puts_put (within t n x d 1) (leads_to m n) (replicate (length m) 0) (length m) j h w (rw (length-replicate {A = ℕ} (length m) 0, is) l)) in
        by_cases (eqb (index_of n k q.0) d)
        (λ s. ⊎_elim
        (λ u. inl (marks (within-table t n x d 1 j (rw first-is u))))
        (λ u. let same = eqb-true (index_of n k q.0) d s in
        let there : j ≡ x + d = rw (← u.0, ← same) refl in
        inr (sym is ∙ ap (leads_to m n) there, rw (← e) (part n k q.0 ∙ rw (u.1, same) (sym (part n k g)))))
        here)
        (λ s. let other = eqb-false (index_of n k q.0) d s in
        inl (marks (inside-within 1 (λ y z. omega (arith, other)))))

  -- the last level: a page that is free has none of the indexes that are left out
  last_index : (q : ℕ) → Free g c q → q / 2 ^ (n * suc zero) ≡ g / 2 ^ (n * suc zero) → index_of n zero g ≤ index_of n zero q → index_of n zero g + c ≤ index_of n zero q
  last_index q free e h =
      let of-q = sym (page_zero n q) ∙ part n zero q in
      let of-g = sym (page_zero n g) ∙ part n zero g in
      let top : q / 2 ^ (n * suc zero) * 2 ^ n ≡ g / 2 ^ (n * suc zero) * 2 ^ n = rw e refl in
      by_cases (leb (index_of n zero g + c) (index_of n zero q)) (λ o. leb-true _ _ o)
      (λ o. let z = leb-false (index_of n zero g + c) (index_of n zero q) o in absurd (free (omega (arith, of-q, of-g, top)) (omega (arith, of-q, of-g, top))))

  pub read-marked : (k : ℕ) (t : List ℕ) (x : ℕ) (r : List ℕ) (b : ByteAddress) (q : PageNumber) → length r ≡ length m → b.0 / 8 % 2 ^ n ≡ 0
      → Inside t x k q.0 (b.0 / 8) → Free g c q.0
      → (i : ℕ) → Memᴰ i (walk_from m (suc k) n b q).reads → any_mark (marks_from m n g c k t x r) i ≡ true
  unfolding marks_from
  read-marked zero t x r b q l whole here free i h =
      let o = inside-within t x zero b q whole here c (last_index q.0 free) in
      walk-cases m zero n b q i h
      (λ e. rw e (upper-marked t x zero b q whole here r c o (read-inside zero b q i h) l))
      (λ o z. clash o refl)
  read-marked (suc k) t x r b q l whole here free i h =
      let j = place (suc k) n b q in
      let d = index_of n (suc k) g in
      let p = read-inside (suc k) b q i h in
      let o = inside-within t x (suc k) b q whole here 0 (λ y z. omega arith) in
      let r' = marked_in (length m) t n x d 0 r in
      walk-cases m (suc k) n b q i h
      (λ e. rw e (marks-kept k (tables_under m t n x d) (leads_to m n (x + d)) r' j (upper-marked t x (suc k) b q whole here r 0 o p l)))
      (λ u z. read-marked k (tables_under m t n x d) (leads_to m n (x + d)) r' (next_base (at m j)) q
      (length_marked t x d r ∙ l) (lead_aligned n (at m j) u)
      (next-inside t x (suc k) b q whole here k refl p u (below-place k (next_base (at m j)) q i z)) free i z)

  -- ---- a word has a mark

  module _ (R : PageNumber → ℕ → Type 0) where
    abbrev Passes : (below first upper : ℕ) → Type 0
    Passes k f p = (q : PageNumber) → q.0 / 2 ^ (n * suc k) ≡ p → (i : ℕ) → Memᴰ i (walk_from m (suc k) n (record { 0 = f * 8 }) q).reads → R q i

    pub record Led (k f : ℕ) : Type 0 where
      pub upper : ℕ
      pub other : upper ≡ g / 2 ^ (n * suc k) → ⊥
      pub whole : f % 2 ^ n ≡ 0
      pub passes : Passes k f upper

    pub record Own (k x : ℕ) : Type 0 where
      pub whole : x % 2 ^ n ≡ 0
      pub passes : Passes k x (g / 2 ^ (n * suc k))

    -- the page with upper levels p, index d and then zeros
    module _ (k f p d : ℕ) (h : d < 2 ^ n) where
      top_of : (q : ℕ) → q / 2 ^ (n * k) ≡ p * 2 ^ n + d → q / 2 ^ (n * suc k) ≡ p
      top_of q e = up n k q ∙ rw e (high p n h)

      index_of_lem : (q : ℕ) → q / 2 ^ (n * k) ≡ p * 2 ^ n + d → index_of n k q ≡ d
      index_of_lem q e = rw e (low p n h)

      place_of : (q : PageNumber) → q.0 / 2 ^ (n * k) ≡ p * 2 ^ n + d → place k n (record { 0 = f * 8 }) q ≡ f + d
      place_of q e = let z = index_of_lem q.0 e in let y : f * 8 / 8 ≡ f = omega arith in rw (y, z)

      word_read : Passes k f p → f + d < length m → R (record { 0 = (p * 2 ^ n + d) * 2 ^ (n * k) }) (f + d)
      word_read pass l =
          let q : PageNumber = record { 0 = (p * 2 ^ n + d) * 2 ^ (n * k) } in
          let b : ByteAddress = record { 0 = f * 8 } in
          let j = place k n b q in
          let e : q.0 / 2 ^ (n * k) ≡ p * 2 ^ n + d = shl-shr (p * 2 ^ n + d) (n * k) in
          let at_j : j ≡ f + d = place_of q e in
          let mem : Memᴰ j (walk_from m (suc k) n b q).reads =
          rw (walk_suc m k n b q, lt-ltb j (length m) (rw at_j l)) (first_read k n j (at m j) (walk_from m k n (next_base (at m j)) q)) in
          pass q (top_of q.0 e) (f + d) (subst (λ (z : ℕ). Memᴰ z (walk_from m (suc k) n b q).reads) at_j mem)

    goes_on_lem : (k f p d : ℕ) → d < 2 ^ n → Passes (suc k) f p → f + d < length m → leads n (at m (f + d)) ≡ true
        → Passes k ((next_base (at m (f + d))).0 / 8) (p * 2 ^ n + d)
    goes_on_lem k f p d h pass l o q e i mem =
        let b : ByteAddress = record { 0 = f * 8 } in
        let j = place (suc k) n b q in
        let at_j : j ≡ f + d = place_of (suc k) f p d h q e in
        let y : (next_base (at m (f + d))).0 / 8 * 8 ≡ (next_base (at m (f + d))).0 = omega arith in
        let base : ◌≡◌ {A = ByteAddress} (record { 0 = (next_base (at m (f + d))).0 / 8 * 8 }) (next_base (at m j)) = rw (y, at_j) in
        let below = walk_from m (suc k) n (next_base (at m j)) q in
        let lower : Memᴰ i below.reads = subst (λ (a : ByteAddress). Memᴰ i (walk_from m (suc k) n a q).reads) base mem in
        let on : leads n (at m j) ≡ true = rw at_j o in
        pass q (top_of (suc k) f p d h q.0 e) i
        (rw (walk_suc m (suc k) n b q, lt-ltb j (length m) (rw at_j l)) (later-read (suc k) n j (at m j) below on i lower))

    -- the pages that are left out are no multiple of 512, and lead to one table of the last level
    module _ (wide : 9 ≤ n) (apart : (y : ℕ) → Free g c (y * 512)) (together : (y : ℕ) → g ≤ y → y < g + c → y / 2 ^ n ≡ g / 2 ^ n) where
      free-upper : (k y : ℕ) → Free g c (y * 2 ^ (n * suc k))
      free-upper k y =
          let a = n * suc k - 9 in
          let z : n * suc k ≡ a + 9 = omega (arith, mul-suc n k) in
          let e : y * 2 ^ (n * suc k) ≡ y * 2 ^ a * 512 = ap (λ (i : ℕ). y * 2 ^ i) z ∙ rw (pow-add 2 a 9) (sym (mul_assoc y (2 ^ a) 512)) in
          subst (λ (i : ℕ). Free g c i) (sym e) (apart (y * 2 ^ a))

      no_more : (y : ℕ) → y * 2 ^ (n * zero) ≡ y
      no_more y = rw (mul-zero n) (mul-one y)

      free_other : (p d : ℕ) → d < 2 ^ n → (p ≡ g / 2 ^ (n * suc zero) → ⊥) → Free g c ((p * 2 ^ n + d) * 2 ^ (n * zero))
      free_other p d h other =
          rw (no_more (p * 2 ^ n + d))
          (λ l k. other (sym (high p n h) ∙ together (p * 2 ^ n + d) l k ∙ sym (up n zero g ∙ rw (page_zero n g))))

      free_own : (d : ℕ) → d < 2 ^ n → (index_of n zero g ≤ d → index_of n zero g + c ≤ d) → Free g c ((g / 2 ^ (n * suc zero) * 2 ^ n + d) * 2 ^ (n * zero))
      free_own d h f =
          let of-g = sym (page_zero n g) ∙ part n zero g in
          rw (no_more (g / 2 ^ (n * suc zero) * 2 ^ n + d))
          (λ l k. let y = f (omega (arith, of-g)) in omega (arith, of-g, y))

      -- a word of a level, whose pages are free
      word-page : (k : ℕ) (t : List ℕ) (x e : ℕ) → ((f : ℕ) → any_mark t f ≡ true → Led k f) → (x < length m → Own k x)
          → ((p d : ℕ) → d < 2 ^ n → (p ≡ g / 2 ^ (n * suc k) → ⊥) → Free g c ((p * 2 ^ n + d) * 2 ^ (n * k)))
          → ((d : ℕ) → d < 2 ^ n → (index_of n k g ≤ d → index_of n k g + e ≤ d) → Free g c ((g / 2 ^ (n * suc k) * 2 ^ n + d) * 2 ^ (n * k)))
          → (j : ℕ) → j < length m → within t n x (index_of n k g) e j ≡ true → {Z : Type 0} → ((q : PageNumber) → Free g c q.0 → R q j → Z) → Z
      word-page k t x e led own of_other of-own j l w f =
          let d = j % 2 ^ n in
          let h : d < 2 ^ n = mod-lt j (pow_pos n) in
          let all : first_of n j + d ≡ j = whole-place n j in
          within-cases t n x (index_of n k g) e j w
          (λ o. let s = led (first_of n j) o in
          let q : PageNumber = record { 0 = (s.upper * 2 ^ n + d) * 2 ^ (n * k) } in
          f q (of_other s.upper d h s.other) (subst (λ (z : ℕ). R q z) all (word_read k (first_of n j) s.upper d h s.passes (rw all l))))
          (λ o a. let here : x + d ≡ j = rw (← o) all in
          let s = own (omega (arith, here)) in
          let q : PageNumber = record { 0 = (g / 2 ^ (n * suc k) * 2 ^ n + d) * 2 ^ (n * k) } in
          f q (of-own d h a) (subst (λ (z : ℕ). R q z) here (word_read k x (g / 2 ^ (n * suc k)) d h s.passes (rw here l))))

      -- a table of the next level
      led-next : (k : ℕ) (t : List ℕ) (x : ℕ) → ((f : ℕ) → any_mark t f ≡ true → Led (suc k) f) → (x < length m → Own (suc k) x)
          → (f : ℕ) → any_mark (tables_under m t n x (index_of n (suc k) g)) f ≡ true → Led k f
      unfolding tables_over
      led-next k t x led own f o =
          let i = index_of n (suc k) g in
          let low-f : f < length m = rw (length_puts (within t n x i 1) (leads_to m n) (replicate (length m) 0) (length m), length-replicate {A = ℕ} (length m) 0) at (marked-below _ f o) in
          puts_cases (within t n x i 1) (leads_to m n) (replicate (length m) 0) (length m) f o
          (λ z. none-marked (length m) f z)
          (λ j l w e.
          let d = j % 2 ^ n in
          let h : d < 2 ^ n = mod-lt j (pow_pos n) in
          let all : first_of n j + d ≡ j = whole-place n j in
          lead_cases m n j (rw (← e) low-f)
          (λ u v y.
          let is : f ≡ (next_base (at m j)).0 / 8 = e ∙ y in
          let flat : (next_base (at m j)).0 / 8 % 2 ^ n ≡ 0 = lead_aligned n (at m j) v in
          within-cases t n x i 1 j w
          (λ a. let s = led (first_of n j) a in
          rw is record {
            upper = s.upper * 2 ^ n + d;
            other = λ z. s.other (sym (high s.upper n h) ∙ rw z (sym (up n (suc k) g)));
            whole = flat;
            passes = rw all at (goes_on_lem k (first_of n j) s.upper d h s.passes (rw all l) (rw all v));
          })
          (λ a b. let here : x + d ≡ j = rw (← a) all in
          let s = own (omega (arith, here)) in
          let p = g / 2 ^ (n * suc (suc k)) in
          rw is record {
            upper = p * 2 ^ n + d;
            other = λ z. let y : d ≡ i = omega (arith, part n (suc k) g) in omega (arith, b (omega arith));
            whole = flat;
            passes = rw here at (goes_on_lem k x p d h s.passes (rw here l) (rw here v));
          })))

      own-next : (k x : ℕ) → (x < length m → Own (suc k) x) → leads_to m n (x + index_of n (suc k) g) < length m → Own k (leads_to m n (x + index_of n (suc k) g))
      own-next k x own h =
          let i = index_of n (suc k) g in
          lead_cases m n (x + i) h
          (λ u v y. let s = own (omega arith) in
          rw y record {
            whole = lead_aligned n (at m (x + i)) v;
            passes = rw (← part n (suc k) g) at (goes_on_lem k x (g / 2 ^ (n * suc (suc k))) i (mod-lt (g / 2 ^ (n * suc k)) (pow_pos n)) s.passes u v);
          })

      pub marked-read : (k : ℕ) (t : List ℕ) (x : ℕ) (r : List ℕ) → ((f : ℕ) → any_mark t f ≡ true → Led k f) → (x < length m → Own k x)
          → (i : ℕ) → any_mark (marks_from m n g c k t x r) i ≡ true
          → {Z : Type 0} → (any_mark r i ≡ true → Z) → ((q : PageNumber) → Free g c q.0 → R q i → Z) → Z
      unfolding marks_from marked_in
      marked-read zero t x r led own i h f z =
          puts_cases (within t n x (index_of n zero g) c) (λ j. j) r (length m) i h f
          (λ j l w e. word-page zero t x c led own free_other free_own j l w (λ q a b. z q a (subst (λ (s : ℕ). R q s) (sym e) b)))
      marked-read (suc k) t x r led own i h f z =
          let d = index_of n (suc k) g in
          marked-read k (tables_under m t n x d) (leads_to m n (x + d)) (marked_in (length m) t n x d 0 r)
          (led-next k t x led own) (own-next k x own) i h
          (λ y. puts_cases (within t n x d 0) (λ j. j) r (length m) i y f
          (λ j l w e. word-page (suc k) t x 0 led own (λ p b u v. free-upper k (p * 2 ^ n + b)) (λ b u v. free-upper k (g / 2 ^ (n * suc (suc k)) * 2 ^ n + b)) j l w
          (λ q a b. z q a (subst (λ (s : ℕ). R q s) (sym e) b))))
          z
