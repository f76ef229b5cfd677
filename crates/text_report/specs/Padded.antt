-- The name of an answer in a list of one length.
--     padded t            text t with zeros after it, name_most bytes in all
-- Assumes nothing.
use Rattle.std.specs.Prelude.{List, ◌++◌, ℕ, take, replicate}
use Rattle.replay_text.specs.Name.{name_most}

unfoldable pub padded : List ℕ → List ℕ
padded t = take name_most (t ++ replicate name_most 0)
