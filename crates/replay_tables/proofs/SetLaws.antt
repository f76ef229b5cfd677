-- What a set line cites: one list with a word set is the lent tables with that word set.
--     set_requesters .. set_state     of each table
-- Assumes nothing.
use mathlib.Core.Path.{◌≡◌, refl, ◌∙◌}
use mathlib.Core.Bool.{Bool, true, false, cond, ◌&&◌}
use mathlib.Core.List.{List}
use Prim.Native.Nat.{ℕ, ◌*◌, ◌^◌, min}
use native.Mathlib.Nat.{mul-one}
use lib.Dec.{ltb}
use Rattle.std.specs.Prelude.{Option, Some, None}
use lib.ListN.{length, take, set, length-take}
use Rattle.kinds.proofs.Tests.{by_cases, and-true}
use Rattle.replay_text.specs.declared.Table.{Table}
use Rattle.replay_text.specs.declared.Table.TheVariants.{Requesters, Entries, Memory, Peers, Interrupts, Windows, Segments, State}
use Rattle.profile.specs.Tables.{entry_words, peer_words, interrupt_words, window_words, segment_count}
use Rattle.table_lists.specs.Once.{once}
use Rattle.replay_tables.specs.Lent.{Lent, lent, state_used, in_use, list_of, with_list}
use Rattle.replay_tables.specs.Promise.{SetEnd, DidSet, SetPart}
use Rattle.replay_text.specs.SessionTables.{table_of, fits}
use Rattle.replay_tables.specs.declared.Extent.{Extent}

no_fit : (a : Bool) → (a && false) ≡ false
no_fit true = refl
no_fit false = refl

-- a list in place of that of table k of b, whose first w words are in use; o is the value that fits
module _ (b : Lent) (k : Table) (i v w : ℕ) (l : List ℕ) (o : Option ℕ) (place : List ℕ → Lent) where
  put : table_of (in_use b) k ≡ take w l → o ≡ cond (fits k v) (Some v) None → place l ≡ b → place (set l i v) ≡ with_list b k (set (list_of b k) i v) →
      (r : SetEnd) {m : List ℕ} → SetPart (min w (length l)) l i o r m → DidSet b k i v r (place m)
  put t f p q r {m = m} h =
      by_cases (fits k v)
      (λ y. let d : SetPart (min w (length l)) l i (Some v) r m = rw (f, y) at h in (
        d.0 ∙ rw (t, y, and-true, length-take) refl,
        by_cases (ltb i (min w (length l)))
            (λ z. rw (d.1, t, y, and-true, length-take, z) q)
            (λ z. rw (d.1, t, y, and-true, length-take, z) p),
      ))
      (λ y. let d : SetPart (min w (length l)) l i None r m = rw (f, y) at h in (d.0 ∙ rw (y, no_fit) refl, rw (d.1, y, no_fit) p))

module _ (x : Extent) (q e m p n w g t : List ℕ) (k : Table) (i v : ℕ) (r : SetEnd) (l : List ℕ) where
  abbrev b : Lent
  b = lent x q e m p n w g t

  pub set_requesters : {o : Option ℕ} → k ≡ Requesters → o ≡ cond (ltb v (2 ^ 16)) (Some v) None → SetPart (min (x.sizes.requesters * 1) (length q)) q i o r l → DidSet b k i v r (lent x l e m p n w g t)
  unfolding table_of fits
  set_requesters h f d = rw h (put b Requesters i v x.sizes.requesters q _ (λ o. lent x o e m p n w g t) refl f refl refl r (rw mul-one at d))

  pub set_entries : k ≡ Entries → SetPart (min (x.sizes.pes * entry_words) (length e)) e i (Some v) r l → DidSet b k i v r (lent x q l m p n w g t)
  unfolding table_of fits
  set_entries h d = rw h (put b Entries i v (x.sizes.pes * entry_words) e (Some v) (λ o. lent x q o m p n w g t) refl refl refl refl r d)

  pub set_memory : k ≡ Memory → SetPart (min (x.memory * 1) (length m)) m i (Some v) r l → DidSet b k i v r (lent x q e l p n w g t)
  unfolding table_of fits
  set_memory h d = rw h (put b Memory i v x.memory m (Some v) (λ o. lent x q e o p n w g t) refl refl refl refl r (rw mul-one at d))

  pub set_peers : k ≡ Peers → SetPart (min (x.sizes.pes * peer_words) (length p)) p i (Some v) r l → DidSet b k i v r (lent x q e m l n w g t)
  unfolding table_of fits
  set_peers h d = rw h (put b Peers i v (x.sizes.pes * peer_words) p (Some v) (λ o. lent x q e m o n w g t) refl refl refl refl r d)

  pub set_interrupts : k ≡ Interrupts → SetPart (min (x.sizes.interrupts * interrupt_words) (length n)) n i (Some v) r l → DidSet b k i v r (lent x q e m p l w g t)
  unfolding table_of fits
  set_interrupts h d = rw h (put b Interrupts i v (x.sizes.interrupts * interrupt_words) n (Some v) (λ o. lent x q e m p o w g t) refl refl refl refl r d)

  pub set_windows : (there : ℕ) → there ≡ once x.sizes.pes → k ≡ Windows → SetPart (min (there * window_words) (length w)) w i (Some v) r l → DidSet b k i v r (lent x q e m p n l g t)
  unfolding table_of fits
  set_windows there z h d = rw h (put b Windows i v (once x.sizes.pes * window_words) w (Some v) (λ o. lent x q e m p n o g t) refl refl refl refl r (rw z at d))

  pub set_segments : {o : Option ℕ} (there : ℕ) → there ≡ once x.sizes.pes → k ≡ Segments → o ≡ cond (ltb v (2 ^ 16)) (Some v) None → SetPart (min (there * segment_count) (length g)) g i o r l → DidSet b k i v r (lent x q e m p n w l t)
  unfolding table_of fits
  set_segments there z h f d = rw h (put b Segments i v (once x.sizes.pes * segment_count) g _ (λ o. lent x q e m p n w o t) refl f refl refl r (rw z at d))

  pub set_state : k ≡ State → SetPart (min (state_used x.sizes.pes) (length t)) t i (Some v) r l → DidSet b k i v r (lent x q e m p n w g l)
  unfolding table_of fits
  set_state h d = rw h (put b State i v (state_used x.sizes.pes) t (Some v) (λ o. lent x q e m p n w g o) refl refl refl refl r d)
