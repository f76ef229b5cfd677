-- What the functions over the bytes of an input cite.
--     before_is           the bytes before the first line feed
--     keeps               they are kept, as many as there is room for
--     moved_feed, moved_all               a line feed, and an input that ended before one
--     end_length, end_feed                the end of the input
--     Here, run_start, run_within, run_more, run_less, run_done   the lines of an input: the run from the start is the run from here, i bytes later
-- Assumes nothing.
use mathlib.Core.Path.{◌≡◌, refl, sym, ap, subst, ◌∙◌}
use mathlib.Core.Bool.{Bool, true, false, cond}
use mathlib.Core.List.{List, [], ◌∷◌}
use Prim.Native.Nat.{ℕ, zero, suc, ◌+◌, ◌-◌, ◌≤◌, ◌<◌, min}
use native.Mathlib.Nat.{add-zero, zero-add, add_assoc, add-suc, suc-add}
use native.Mathlib.Numerals.{add-one}
use native.Mathlib.Omega.{arith}
use lib.Dec.{eqb, ltb}
use lib.ListN.{length, take, drop, get_or, set, length-set, drop_of_length-le, length-drop}
use lib.Seq.{drop-cons, drop-drop, get_or-drop, take-take, length-take-le}
use borrow.Rule.Slice.PartMut.{put_mid}
use borrow.Author.Tests.{lt-ltb, le-ltb, eqb-true, eq-eqb, le-leb, ltb-true}
use Rattle.replay_text.specs.Bytes.{line_feed}
use Rattle.kinds.proofs.Tests.{by_cases, clash}
use Rattle.replay_session.specs.EndPromise.{EndedTo}
use Rattle.replay_session.specs.Standing.{Standing, Buffers, buffers_of, progress_of, free, line_done, fits}
use Rattle.replay_session.specs.declared.Ended.{Ended}
use Rattle.replay_session.specs.declared.Progress.{Progress}
use Rattle.replay_text.specs.declared.NoRoom.{NoRoom}
use Rattle.replay_text.proofs.SessionIsolation.{session-isolation}
use Rattle.replay_text.specs.Stream.{line_kept, before}
use Rattle.replay_text.proofs.WholeLaws.{whole}
use Rattle.replay_feed.specs.Feed.{Buffer, kept, kept_all, buffer_of, with_buffer, byte_in, Fed, stopped, later, feed_all, end_bytes, end_of}
use Rattle.replay_feed.proofs.FeedLaws.{in_text}
use Rattle.replay_feed.specs.Promise.{KeptTo, MovedTo, moved_by, FedResult, FedAs}
use Rattle.replay_feed.specs.declared.Unfit.{Unfit}
use Rattle.std.specs.Prelude.{Result, Ok, Err, is_ok, Option, ◌==◌}
use Rattle.std.specs.Option.{unwrap_or}
use Rattle.std.specs.List.{position, position_or_len}
use Rattle.std.proofs.lemmas.List.Edits.{sets, sets-eq}
use Rattle.std.proofs.Common.{ltb-false, append_assoc}
use Rattle.replay_feed.specs.declared.Kept.{Kept}
use Rattle.replay_feed.specs.declared.Moved.{Moved}

-- the place of the first line feed
abbrev is_feed : ℕ → Bool
is_feed b = b == line_feed

first_feed : (l : List ℕ) → position_or_len is_feed l ≡ before l
unfolding before
first_feed [] = refl
first_feed (x ∷ l) = by_cases (eqb x line_feed) (λ o. rw o refl) (λ o. rw o (omega (arith, first_feed l)))

before_most : (l : List ℕ) → before l ≤ length l
unfolding before
before_most [] = omega arith
before_most (x ∷ l) = by_cases (eqb x line_feed) (λ o. rw o (omega arith)) (λ o. rw o (omega (arith, before_most l)))

pub before_is : (l : List ℕ) {r : Option ℕ} {n : ℕ} → r ≡ position (λ b. b == line_feed) l → n ≡ unwrap_or r (length l) → (n ≡ before l) × (n ≤ length l)
before_is l e f =
    by_cases (ltb (position_or_len is_feed l) (length l))
    (λ o. let z = f ∙ rw (e, o) (first_feed l) in (z, omega (arith, z, before_most l)))
    (λ o. let z = f ∙ rw (e, o) (omega (arith, first_feed l, before_most l, ltb-false (position_or_len is_feed l) (length l) o)) in (z, omega (arith, z, before_most l)))

-- a full buffer keeps no byte
kept_full : (b : Buffer) (l : List ℕ) → line_kept ≤ b.pending → kept_all b l ≡ b
unfolding kept_all
kept_full b [] h = refl
kept_full b (x ∷ l) h = rw (le-ltb b.pending line_kept h) (kept_full b l h)

-- of the bytes l, the first k are kept: all, or those that fill the buffer
kept_first : (m : List ℕ) (p : ℕ) (l : List ℕ) (k : ℕ) → p + k ≤ line_kept → k ≤ length l → (k < length l → p + k ≡ line_kept) →
    kept_all (record { line = m; pending = p }) l ≡ record { line = sets m p (take k l); pending = p + k }
unfolding kept_all
kept_first m p [] k h g f = let z : k ≡ 0 = omega arith in rw (z, add-zero p) refl
kept_first m p (x ∷ l) zero h g f =
    let z : p + 0 ≡ line_kept = f (omega arith) in
    kept_full (record { line = m; pending = p }) (x ∷ l) (omega (arith, z)) ∙ rw (add-zero p) refl
kept_first m p (x ∷ l) (suc k) h g f =
    rw (lt-ltb p line_kept (omega arith))
    (kept_first (set m p x) (suc p) l k (omega arith) (omega arith) (λ i. let z = f (omega arith) in omega (arith, z)) ∙ rw (suc-add, add-suc) refl)

-- the bytes of l from place i on up to a line feed, of which there are n: those that the buffer has room for are kept
pub keeps : (m : List ℕ) (p : ℕ) (l : List ℕ) (i : ℕ) {n e : ℕ} {r c : List ℕ} → length m ≡ line_kept → p ≤ line_kept → (n ≡ before r) × (n ≤ length r) → e ≡ min line_kept (p + n) →
    r ≡ drop i l → c ≡ take (e - p) r → KeptTo (record { line = m; pending = p }) l i (record { pending = e; next = i + n }) (record { line = put_mid p (e - p) m c; pending = e })
keeps m p l i {n} {e} {r} {c} full few counted ends from copied =
    let k : ℕ = e - p in
    let within : p + k ≤ line_kept = omega (arith, ends) in
    let most : k ≤ n = omega (arith, ends) in
    let end : p + k ≡ e = omega (arith, ends) in
    let long : length (take n r) ≡ n = length-take-le n r counted.1 in
    let bytes : c ≡ take k (take n r) = copied ∙ sym (take-take k n r most) in
    let count : length c ≡ k = rw bytes (length-take-le k (take n r) (omega (arith, long, most))) in
    let put : put_mid p k m c ≡ sets m p c = sym (sets-eq c m p (omega (arith, count, full, within)) ∙ rw (count, append_assoc, drop-drop k p m) refl) in
    let all : kept_all (record { line = m; pending = p }) (take n r) ≡ record { line = sets m p (take k (take n r)); pending = p + k } =
    kept_first m p (take n r) k within (omega (arith, long, most)) (λ z. omega (arith, long, ends, z)) in
    record {
      next = rw (← from, ← counted.0) refl;
      keeps = rw (← from, ← counted.0, all, put, ← bytes, end) refl;
    }

-- a buffer that fits goes on fitting
abbrev Fit : Buffer → Type 0
Fit b = (length b.line ≡ line_kept) × (b.pending ≤ line_kept)

kept-fit : (b : Buffer) (x : ℕ) → Fit b → Fit (kept b x)
kept-fit b x h =
    by_cases (ltb b.pending line_kept)
    (λ o. rw o (length-set b.line b.pending x ∙ h.0, omega (arith, ltb-true b.pending line_kept o)))
    (λ o. rw o h)

all_fit : (b : Buffer) (l : List ℕ) → Fit b → Fit (kept_all b l)
unfolding kept_all
all_fit b [] h = h
all_fit b (x ∷ l) h = all_fit (kept b x) l (kept-fit b x h)

fit_is : (s : Standing) → Fit (buffer_of s) → fits s ≡ true
fit_is s h = rw (eq-eqb (length s.line) line_kept h.0, le-leb s.pending line_kept h.1)

done-fit : (s : Standing) → Fit (buffer_of s) → fits (line_done s) ≡ true
unfolding line_done
done-fit s h = by_cases (free s) (λ o. rw (o, eq-eqb (length s.line) line_kept h.0)) (λ o. rw o (fit_is s h))

later-none : (r : Fed) → later 0 r ≡ r
later-none r = rw (zero-add r.bytes)

later_more : (i n : ℕ) (r : Fed) → later i (later n r) ≡ later (i + n) r
later_more i n r = rw (add_assoc i n r.bytes)

-- the bytes up to a line feed are kept
module _ (s : Standing) where
  run_other : (b : Buffer) (x : ℕ) (l : List ℕ) → eqb x line_feed ≡ false → feed_all (with_buffer s b) (x ∷ l) ≡ later 1 (feed_all (with_buffer s (kept b x)) l)
  unfolding feed_all byte_in
  run_other b x l t = rw t

  run_kept : (b : Buffer) (l : List ℕ) → feed_all (with_buffer s b) l ≡ later (before l) (feed_all (with_buffer s (kept_all b (take (before l) l))) (drop (before l) l))
  unfolding before kept_all
  run_kept b [] = sym (later-none (feed_all (with_buffer s b) []))
  run_kept b (x ∷ l) =
      by_cases (eqb x line_feed)
      (λ t. rw t (sym (later-none (feed_all (with_buffer s b) (x ∷ l)))))
      (λ t. rw t
      (run_other b x l t
      ∙ ap (λ (r : Fed). later 1 r) (run_kept (kept b x) l)
      ∙ later_more 1 (before l) (feed_all (with_buffer s (kept_all (kept b x) (take (before l) l))) (drop (before l) l))
      ∙ rw (suc-add, zero-add)))

-- the byte after them is a line feed
feed_after : (l : List ℕ) → before l < length l → get_or l (before l) 0 ≡ 10
unfolding before
feed_after [] h = absurd (omega arith)
feed_after (x ∷ l) h =
    by_cases (eqb x line_feed) (λ t. rw t (eqb-true x line_feed t)) (λ t. rw t (feed_after l (let g = rw t at h in omega arith)))

-- a line feed
module _ (t : Standing) (l : List ℕ) {e : Result Ended NoRoom} {u : Standing} (d : EndedTo t e u) where
  run_ended : is_ok e ≡ true → feed_all t (10 ∷ l) ≡ later 1 (feed_all u l)
  unfolding feed_all byte_in
  run_ended h =
      let f : free t ≡ true = sym d.could ∙ h in
      rw (f, d.leaves)

  run_stuck : is_ok e ≡ false → feed_all t (10 ∷ l) ≡ stopped u
  unfolding feed_all line_done
  run_stuck h =
      let f : free t ≡ false = sym d.could ∙ h in
      rw (f, d.leaves, f)

-- the bytes of l from place i were kept: c
module _ (s : Standing) (l : List ℕ) (i : ℕ) {k : Kept} {c : Buffer} (h : KeptTo (buffer_of s) l i k c) (g : i < length l) (few : Fit (buffer_of s)) where
  kept-few : Fit c
  kept-few = subst (λ (b : Buffer). Fit b) (sym h.keeps) (all_fit (buffer_of s) _ few)

  -- the run from there
  run_there : feed_all s (drop i l) ≡ later (before (drop i l)) (feed_all (with_buffer s c) (drop k.next l))
  run_there = run_kept s (buffer_of s) (drop i l) ∙ rw (← h.keeps, drop-drop (before (drop i l)) i l, ← h.next)

  pub moved_all : length l ≤ k.next → MovedTo s l i (with_buffer s c) (record { progress = progress_of (with_buffer s c); at = s.at; next = k.next; limit = length l })
  moved_all f = record {
    more = true;
    bytes = before (drop i l);
    next = h.next;
    limit = refl;
    some = λ _. omega (arith, h.next);
    same = run_there;
    fit = fit_is (with_buffer s c) kept-few;
  }

  module _ (f : k.next < length l) (p : Progress) (a : ℕ) {e : Result Ended NoRoom} {u : Standing} (d : EndedTo (with_buffer s c) e u) where
    feed_there : drop k.next l ≡ 10 ∷ drop (suc k.next) l
    feed_there =
        let x : get_or l k.next 0 ≡ 10 = rw h.next (sym (get_or-drop i l (before (drop i l)) 0) ∙ feed_after (drop i l) (omega (arith, h.next, length-drop i l))) in
        drop-cons l k.next 0 f ∙ rw x

    fit-after : fits u ≡ true
    fit-after = rw d.leaves (done-fit (with_buffer s c) kept-few)

    moved_end : is_ok e ≡ true → MovedTo s l i u (moved_by p a e k.next (length l))
    moved_end o = rw o (record {
      more = true;
      bytes = before (drop i l) + 1;
      next = omega (arith, h.next);
      limit = refl;
      some = λ _. omega arith;
      same = run_there ∙ rw (feed_there, run_ended (with_buffer s c) (drop (suc k.next) l) d o, add-one k.next) (later_more (before (drop i l)) 1 (feed_all u (drop (suc k.next) l)) ∙ rw (add-one (before (drop i l))));
      fit = fit-after;
    })

    moved_stop : is_ok e ≡ false → MovedTo s l i u (moved_by p a e k.next (length l))
    moved_stop o = rw o (record {
      more = false;
      bytes = before (drop i l);
      next = h.next;
      limit = refl;
      some = λ w. clash {b = false} w refl;
      same = run_there ∙ rw (feed_there, run_stuck (with_buffer s c) (drop (suc k.next) l) d o);
      fit = fit-after;
    })

    pub moved_feed : MovedTo s l i u (moved_by p a e k.next (length l))
    moved_feed = by_cases (is_ok e) moved_end moved_stop

-- here: the replay stands at t after i bytes of l; more can be taken, up to the end n of l, or n is i
pub record Here (s : Standing) (l : List ℕ) (t : Standing) (i n : ℕ) : Type 0 where
  pub more : Bool
  pub limit : n ≡ cond more (length l) i
  pub same : feed_all s l ≡ later i (cond more (feed_all t (drop i l)) (stopped t))

pub run_start : (s : Standing) (l : List ℕ) → Here s l s 0 (length l)
run_start s l = record { more = true; limit = refl; same = sym (later-none (feed_all s l)) }

module _ {s : Standing} {l : List ℕ} {t : Standing} {i n : ℕ} (h : Here s l t i n) where
  -- the run ended here
  ended_here : n ≤ i → feed_all s l ≡ record { standing = t; bytes = i }
  unfolding feed_all
  ended_here g =
      by_cases h.more
      (λ b. let m : n ≡ length l = rw b at h.limit in
      let e : feed_all s l ≡ later i (feed_all t (drop i l)) = rw b at h.same in
      e ∙ rw (drop_of_length-le l {i = i} (omega (arith, g, m)), add-zero i))
      (λ b. let e : feed_all s l ≡ later i (stopped t) = rw b at h.same in e ∙ rw (add-zero i))

  pub run_done : {f : Bool} → n ≤ i → f ≡ fits s → f ≡ true → FedAs s l (Ok (record { progress = progress_of t; bytes = i; at = t.at })) (buffers_of t)
  run_done g a o = record { returns = rw (← a, o, ended_here g); leaves = rw (← a, o, ended_here g); text = in_text; whole = whole; isolation = session-isolation }

  -- there is more
  module _ (g : i < n) where
    goes_on_lem : h.more ≡ true
    goes_on_lem = by_cases h.more (λ b. b) (λ b. let m : n ≡ i = rw b at h.limit in absurd (omega (arith, g, m)))

    to_end : n ≡ length l
    to_end = h.limit ∙ rw goes_on_lem

    pub run_within : i < length l
    run_within = omega (arith, g, to_end)

    module _ {u : Standing} {m : Moved} (d : MovedTo t l i u m) where
      pub run_more : Here s l u m.next m.limit
      run_more =
          let from : feed_all s l ≡ later i (feed_all t (drop i l)) = h.same ∙ rw goes_on_lem in
          record {
            more = d.more;
            limit = d.limit;
            same = from ∙ rw (d.same, later_more i d.bytes (cond d.more (feed_all u (drop m.next l)) (stopped u)), ← d.next);
          }

      pub run_less : m.limit - m.next < n - i
      run_less =
          by_cases d.more
          (λ b. let f : m.limit ≡ length l = d.limit ∙ rw b in omega (arith, f, to_end, g, d.next, d.some b))
          (λ b. let f : m.limit ≡ m.next = d.limit ∙ rw b in omega (arith, f, g))

pub fed-unfit : (s : Standing) (l : List ℕ) {f : Bool} {b : Unfit} → f ≡ fits s → f ≡ false → FedAs s l (Err b) (buffers_of s)
fed-unfit s l a o = record { returns = rw (← a, o); leaves = rw (← a, o); text = in_text; whole = whole; isolation = session-isolation }

-- `finish`
pub end_feed : (s : Standing) {n : ℕ} {r : FedResult} {c : Buffers} → n ≡ end_bytes s.pending → FedAs s (take n (10 ∷ [])) r c → FedAs s (end_of s) r c
end_feed s h f = rw (← h) f

pub end_length : (m : ℕ) {n : ℕ} → n ≡ end_bytes m → n ≡ length {A = ℕ} (take n (10 ∷ []))
end_length m h = rw h (by_cases (eqb m 0) (λ o. rw o) (λ o. rw o))
