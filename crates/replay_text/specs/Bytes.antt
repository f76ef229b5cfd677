-- A text as bytes.
--     bytes s             the bytes of a text of ASCII characters
--     tab, line_feed      the byte that parts fields, the byte that ends a line
-- Assumes nothing.
use Rattle.std.specs.Prelude.{List, [] as nil, ◌∷◌ as ◌cons◌, ℕ}
use Prim.Native.Char.{code}
use Prim.Native.String.{String, [], ◌∷◌}

abbrev pub bytes : String → List ℕ
bytes [] = nil
bytes (c ∷ s) = code c cons bytes s

abbrev pub tab : ℕ
tab = 9

abbrev pub line_feed : ℕ
line_feed = 10
