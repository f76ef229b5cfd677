-- An output as it is written.
--     Writes t o p        text t was written into output o, which is p afterwards: the same bytes lent, and the place after the text
-- Assumes nothing.
use Rattle.std.specs.Prelude.{◌≡◌, List, ℕ}
use Rattle.text_report.specs.Placed.{Wrote}
use Rattle.text_report.specs.declared.output.Output.{Output}

pub record Writes (t : List ℕ) (o p : Output) : Type 0 where
  pub wrote : Wrote t o.bytes.now o.at p.bytes.now p.at
  pub same : p.bytes.ghost_name ≡ o.bytes.ghost_name
