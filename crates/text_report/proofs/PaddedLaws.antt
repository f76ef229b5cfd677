-- A name in its padding.
--     padded_length       a padding has name_most bytes; padded_name: the name is its first bytes
-- Assumes nothing.
use Rattle.std.specs.Prelude.{◌≡◌, List, ◌++◌, ℕ, length, take, replicate}
use Rattle.std.proofs.Common.{◌∙◌, arith, length-append, take-take, length-take-le}
use Rattle.std.proofs.Math.Seq.{take-append_seam}
use Rattle.replay_text.specs.Name.{name_of, name_most}
use Rattle.replay_text.proofs.NameLaws.{name_most_lem}
use Rattle.text_report.specs.Padded.{padded}

pub padded_length : (t : List ℕ) → length (padded t) ≡ name_most
unfolding padded
padded_length t = length-take-le name_most (t ++ replicate name_most 0) (rw (length-append t (replicate name_most 0)) (omega arith))

pub padded_name : (k : ℕ) → take (length (name_of k)) (padded (name_of k)) ≡ name_of k
unfolding padded
padded_name k =
    take-take (length (name_of k)) name_most (name_of k ++ replicate name_most 0) (name_most_lem k) ∙ take-append_seam (name_of k) (replicate name_most 0)
