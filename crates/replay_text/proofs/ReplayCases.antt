-- Whole runs: an input and its output, byte for byte.
--     printed             the run of case A, as the paper prints it
--     right               the output of each input of the table
-- Assumes nothing.
use Rattle.std.specs.Prelude.{◌≡◌, refl, List, [], ◌∷◌, ◌++◌, map, ℕ}
use Prim.Native.String.{String}
use Rattle.replay_text.specs.Bytes.{bytes}
use Rattle.replay_text.specs.Field.{fields_of, number_from, number_of, only, is}
use Rattle.replay_text.specs.Line.{field, final, numbers, sized, dma, line_of}
use Rattle.replay_text.specs.Word.{find}
use Rattle.profile.proofs.Opened.{opened}
use Rattle.replay_text.specs.Name.{name_of}
use Rattle.replay_text.specs.Digits.{digits, places_from}
use Rattle.replay_text.specs.Text.{head_of, tail_of}
use Rattle.replay_text.specs.SessionTables.{table_of, fits, stored_in}
use Rattle.replay_text.specs.Session.{reply_to, after_line}
use Rattle.replay_text.specs.Replay.{lines_from, answers, output}

pub printed :
    output (bytes "size\t4\t0\t8\t1000\nset\trequesters\t5\t2\nset\ttranslation\t10\t2000\nset\ttranslation\t11\t1\nset\ttranslation\t12\t1\nset\ttranslation\t13\t1\nset\tmemory\t403\t12345003\ndma\t5\tr\t3abc\t4\t0\n")
    ≡ bytes "n\tanswer\treason\tvalue\twords\n1\tpass\t0\t0000000012345abc\t1\n"
unfolding opened fields_of number_from number_of only is field final numbers sized dma line_of find digits places_from name_of head_of tail_of table_of fits stored_in reply_to after_line lines_from answers output
printed = refl

-- the inputs and their outputs after the header
unfoldable pub rows : List (String × String)
rows =
    ("", "")
    -- before a good size line every request is 1, and a set line is bad
    ∷ ("error\t0\nset\tstate\t0\t1\nend\t0", "1\trefuse\t1\t0000000000000000\t0\n2\tbad\t0\t0000000000000000\t0\n3\trefuse\t1\t0000000000000000\t0\n")
    -- an empty line is bad; good size and set lines write nothing and use no number
    ∷ ("size\t1\t0\t1\t0\n\nset\trequesters\t0\t0\nerror\t0\n", "1\tbad\t0\t0000000000000000\t0\n2\tdone\t0\t0000000000000000\t0\n")
    -- a bad size line leaves the tables as they were; a good one clears them
    ∷ ("size\t1\t0\t1\t0\nerror\t0\nsize\t11\t0\t1\t0\nload\t0\t4\nclear\t0\tmmio\nsize\t1\t0\t2\t0\nset\trequesters\t1\t1\nerror\t1\n", "1\tdone\t0\t0000000000000000\t0\n2\tbad\t0\t0000000000000000\t0\n3\trefuse\t10\t0000000000000000\t0\n4\tdone\t0\t0000000000000000\t0\n5\trefuse\t3\t0000000000000000\t0\n")
    -- limits of an index and of a value
    ∷ ("size\t1\t0\t1\t1\nset\tmemory\t0\tffffffffffffffff\nset\tmemory\t1\t0\nset\trequesters\t0\t10000\nset\tsegments\tff\tffff\nset\tsegments\t100\t0\nset\twindows\t43\t0", "1\tbad\t0\t0000000000000000\t0\n2\tbad\t0\t0000000000000000\t0\n3\tbad\t0\t0000000000000000\t0\n4\tbad\t0\t0000000000000000\t0\n")
    -- 4 GiB are installed: a bypass up to its last byte, and one byte further, which freezes
    ∷ ("size\t1\t0\t1\t0\nset\ttranslation\t5\t200\nset\ttranslation\t6\t1\ndma\t0\tr\t8000000ffffffff\t1\t0\ndma\t0\tr\t800000100000000\t1\t0\ndma\t0\tr\t8000000ffffffff\t1\t0", "1\tpass\t0\t00000000ffffffff\t0\n2\trefuse\t17\t0000000000000000\t0\n3\trefuse\t4\t0000000000000000\t0\n")
    -- the last word of the state is the fence word: a load, a store and an error message of a fenced bridge, firmware on it, and its fence cleared
    ∷ ("size\t1\t0\t1\t0\nset\tstate\t4\t7\nset\tstate\t5\t0\nload\t0\t2\nstore\t0\t2\nerror\t0\nload\t0\t3\nclear\t0\tdma\nset\tstate\t4\t6\nload\t0\t2\n", "1\tbad\t0\t0000000000000000\t0\n2\tones\t18\t000000000000ffff\t0\n3\tdrop\t18\t0000000000000000\t0\n4\trefuse\t18\t0000000000000000\t0\n5\trefuse\t2\t0000000000000000\t0\n6\tdone\t0\t0000000000000000\t0\n7\trefuse\t10\t0000000000000000\t0\n")
    ∷ []

abbrev headed : String → List ℕ
headed t = bytes "n\tanswer\treason\tvalue\twords\n" ++ bytes t

pub right : map (λ (r : String × String). output (bytes r.0)) rows ≡ map (λ (r : String × String). headed r.1) rows
unfolding rows opened fields_of number_from number_of only is field final numbers sized dma line_of find digits places_from name_of head_of tail_of table_of fits stored_in reply_to after_line lines_from answers output
right = refl
