-- What the functions of `freeze` are proved from.
--     part_within ..      the part that is frozen, and the whole after it
--     froze_both, froze_alone     the failing PE is stopped, and then its peers, if it lists any
--     turn_first ..       the peers are stopped, a PE to a turn
-- Assumes nothing.
use mathlib.Core.Path.{◌≡◌, refl, sym, ap, ◌∙◌}
use mathlib.Core.Bool.{Bool, true}
use mathlib.Core.List.{List, ◌++◌}
use Prim.Native.Nat.{ℕ, ◌+◌, ◌*◌, ◌≤◌}
use native.Mathlib.Omega.{arith}
use lib.ListN.{length, take, drop}
use lib.Seq.{length-take-le}
use Rattle.kinds.specs.Answer.{reason_number}
use Rattle.kinds.specs.Turns.{turns}
use Rattle.kinds.proofs.TurnsLaws.{turns_next}
use Rattle.kinds.specs.Words.{bit_of}
use Rattle.kinds.specs.declared.number.PeNumber.{PeNumber}
use Rattle.kinds.specs.declared.outcome.ErrorRecord.{ErrorRecord}
use Rattle.profile.specs.Freeze.{froze}
use Rattle.profile.specs.Tables.{state_words}
use Rattle.freeze.specs.Turn.{stopped, peers_stopped, lists_nobody, turned, peer_turn, end_of, froze_all}
use Rattle.freeze.proofs.TurnLaws.{turns-is, length_turned, nobody-stopped, both_is, end-within, part-is}

-- `freeze`
module _ (l : List ℕ) (b : ℕ) {n : ℕ} (end : n ≡ end_of (length l) b) where
  pub part_within : n ≤ length l
  part_within = rw end (end-within l b)

  pub part_length : n ≡ length (take n l)
  part_length = sym (length-take-le n l part_within)

  pub part_froze : (v : List ℕ) (p : PeNumber) (e : ErrorRecord) {k : List ℕ} → k ≡ froze_all v p e (take n l) → k ++ drop n l ≡ froze b v p e l
  part_froze v p e h = rw (h, end) (part-is l b v p e)

-- `freeze_all`: m is the state after the failing PE is stopped
module _ (v : List ℕ) (p : PeNumber) (e : ErrorRecord) (l : List ℕ) {m : List ℕ} (first : m ≡ stopped (reason_number e.reason) e.value e.word.0 l p.0) where
  pub froze_both : {x : List ℕ} → x ≡ peers_stopped v p m → x ≡ froze_all v p e l
  froze_both h = h ∙ rw first (both_is v p e l)

  pub froze_alone : {b : Bool} → length v ≡ 4 → b ≡ lists_nobody v → b ≡ true → m ≡ froze_all v p e l
  froze_alone four asked h = froze_both (sym (nobody-stopped v four (sym asked ∙ h) p m))

-- `stop_peers`: m is the state after k turns
module _ (v : List ℕ) (p : PeNumber) (l : List ℕ) where
  pub turn_first : l ≡ turns (peer_turn v p) l 0
  unfolding turns
  turn_first = refl

  module _ {m : List ℕ} (k : ℕ) (same : m ≡ turns (peer_turn v p) l k) where
    pub turn_next : {b : Bool} {x : List ℕ} → b ≡ bit_of v k → x ≡ turned b p m k → x ≡ turns (peer_turn v p) l (k + 1)
    turn_next asked h = turns_next (peer_turn v p) l k same (rw (← asked) h)

    module _ {b : Bool} {x : List ℕ} (asked : b ≡ bit_of v k) (h : x ≡ turned b p m k) where
      pub turn_length : length m ≡ length l → length x ≡ length l
      turn_length g = ap length (rw asked at h) ∙ length_turned v p m k ∙ g

      pub turn_last : length m ≡ length l → length m ≤ k * state_words + 3 → x ≡ peers_stopped v p l
      turn_last g f = turn_next asked h ∙ turns-is v p l (k + 1) (omega (arith, g, f))
