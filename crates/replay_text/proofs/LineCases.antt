-- Lines and what they say: every form, every limit and one past it, and lines of no form.
--     sizes, stores, requests, others     the tables
--     right               each line of the tables says what stands beside it
--     longest-good        a good line of 73 bytes; dma_request: a DMA in bare numbers
-- Assumes nothing.
use Rattle.std.specs.Prelude.{◌≡◌, refl, List, [], ◌∷◌, map, ℕ, length, Ok}
use Prim.Native.String.{String}
use Rattle.kinds.specs.declared.request.Direction.{Direction}
use Rattle.kinds.specs.declared.request.Direction.TheVariants.{Read, Write}
use Rattle.kinds.specs.declared.request.Part.TheVariants.{Mmio, Dma as DmaPart, Record}
use Rattle.kinds.specs.declared.request.Request.TheVariants.{Dma, Load, Store, Error, Clear, End, Priority}
use Rattle.replay_text.specs.Results.{Parsed, bad}
use Rattle.replay_text.specs.declared.Line.TheVariants.{Size, Set, Request}
use Rattle.replay_text.specs.declared.Table.TheVariants.{Requesters, Entries, Memory, Peers, Interrupts, Windows, Segments, State}
use Rattle.replay_text.specs.Bytes.{bytes}
use Rattle.replay_text.specs.Field.{fields_of, number_from, number_of, only, is}
use Rattle.replay_text.specs.Line.{field, final, numbers, sized, dma, line_of}
use Rattle.replay_text.specs.Word.{find}

-- sizes
unfoldable pub sizes : List (String × Parsed)
sizes =
    ("size\t4\t8\t10\t600", Ok (Size 4 8 0x10 0x600))
    ∷ ("size\t1\t0\t1\t0", Ok (Size 1 0 1 0))
    ∷ ("size\t10\t40\t40\t1000", Ok (Size 0x10 0x40 0x40 0x1000))
    ∷ ("size\t0\t0\t1\t0", bad)
    ∷ ("size\t11\t0\t1\t0", bad)
    ∷ ("size\t1\t41\t1\t0", bad)
    ∷ ("size\t1\t0\t0\t0", bad)
    ∷ ("size\t1\t0\t41\t0", bad)
    ∷ ("size\t1\t0\t1\t1001", bad)
    ∷ ("size\t4\t8\t10", bad)
    ∷ ("size\t4\t8\t10\t600\t0", bad)
    ∷ []

-- stores into the tables, at any index
unfoldable pub stores : List (String × Parsed)
stores =
    ("set\trequesters\t5\t2", Ok (Set Requesters 5 2))
    ∷ ("set\ttranslation\t10\t2000", Ok (Set Entries 0x10 0x2000))
    ∷ ("set\tmemory\t403\t12345003", Ok (Set Memory 0x403 0x12345003))
    ∷ ("set\tpeers\t4\tffffffffffffffff", Ok (Set Peers 4 0xffff_ffff_ffff_ffff))
    ∷ ("set\tinterrupts\tffffffffffffffff\t0", Ok (Set Interrupts 0xffff_ffff_ffff_ffff 0))
    ∷ ("set\twindows\t0\t100000000", Ok (Set Windows 0 0x1_0000_0000))
    ∷ ("set\tsegments\tff\t10000", Ok (Set Segments 0xff 0x10000))
    ∷ ("set\tstate\t0\t3", Ok (Set State 0 3))
    ∷ ("set\tmemory\t123\t456789abcdef0", Ok (Set Memory 0x123 0x4_5678_9abc_def0))
    ∷ ("set\tentries\t0\t0", bad)
    ∷ ("set\tState\t0\t0", bad)
    ∷ ("set\tstate\t0", bad)
    ∷ ("set\tstate\t0\t0\t0", bad)
    ∷ []

abbrev pub dma_request : (requester : ℕ) → Direction → (address length x : ℕ) → Parsed
dma_request r d a n x = Ok (Request (Dma (record { requester = r; direction = d; address = record { 0 = a }; length = n; «data» = x })))

-- requests, those that no table has and those that are badly formed among them
unfoldable pub requests : List (String × Parsed)
requests =
    ("dma\t5\tr\t3abc\t4\t0", dma_request 5 Read 0x3abc 4 0)
    ∷ ("dma\t10005\tw\tffffffffffffffff\t0\tffffffff", dma_request 0x10005 Write 0xffff_ffff_ffff_ffff 0 0xffff_ffff)
    ∷ ("dma\t5\tw\t0\t4\t100000000", bad)
    ∷ ("dma\t5\tr\t0\t4\t100000000", bad)
    ∷ ("dma\t5\trw\t0\t4\t0", bad)
    ∷ ("dma\t5\tr\t0\t4", bad)
    ∷ ("load\t100300010\t4", Ok (Request (Load (record { 0 = 0x1_0030_0010 }) 4)))
    ∷ ("store\t0\t3", Ok (Request (Store (record { 0 = 0 }) 3)))
    ∷ ("load\t0", bad)
    ∷ ("store\t0\t3\t0", bad)
    ∷ ("error\t5", Ok (Request (Error 5)))
    ∷ ("error\t5\t5", bad)
    ∷ ("clear\t2\tmmio", Ok (Request (Clear 2 Mmio)))
    ∷ ("clear\t2\tdma", Ok (Request (Clear 2 DmaPart)))
    ∷ ("clear\tffff\trecord", Ok (Request (Clear 0xffff Record)))
    ∷ ("clear\t2\tall", bad)
    ∷ ("end\t7", Ok (Request (End 7)))
    ∷ ("end", bad)
    ∷ ("prio\t7\t100", Ok (Request (Priority 7 0x100)))
    ∷ ("prio\t7\t100\t0", bad)
    -- no line sets or clears the fence
    ∷ ("fatal\t5", bad)
    ∷ ("fence", bad)
    ∷ ("unfence", bad)
    ∷ ("clear\t2\tfence", bad)
    ∷ []

-- numbers and fields
unfoldable pub others : List (String × Parsed)
others =
    ("error\t0000000000000005", Ok (Request (Error 5)))
    ∷ ("error\t00000000000000005", bad)
    ∷ ("error\tabcdef", Ok (Request (Error 0xabcdef)))
    ∷ ("error\tABCDEF", bad)
    ∷ ("error\t5g", bad)
    ∷ ("error\t5`", bad)
    ∷ ("error\t5:", bad)
    ∷ ("error\t5/", bad)
    ∷ ("error\t0x5", bad)
    ∷ ("error\t", bad)
    ∷ ("error", bad)
    ∷ ("error\t5\t", bad)
    ∷ ("error\t\t5", bad)
    ∷ ("\terror\t5", bad)
    ∷ ("error 5", bad)
    ∷ ("error\t5 ", bad)
    ∷ ("error\t5\r", bad)
    ∷ ("error\t5\0", bad)
    ∷ ("Error\t5", bad)
    ∷ ("errors\t5", bad)
    ∷ ("priority\t7\t5", bad)
    ∷ ("", bad)
    ∷ ("\t", bad)
    ∷ []

abbrev pub Right : List (String × Parsed) → Type 0
Right table = map (λ (c : String × Parsed). line_of (bytes c.0)) table ≡ map (λ (c : String × Parsed). c.1) table

pub right : Right sizes × Right stores × Right requests × Right others
unfolding sizes stores requests others line_of field only final numbers sized dma fields_of number_from number_of is find
right = (refl, refl, refl, refl)

-- no line is longer and good
abbrev pub longest_line : List ℕ
longest_line = bytes "dma\t0000000000000005\tr\t0000000000003abc\t0000000000000004\t0000000000000000"

pub longest-good : (length longest_line ≡ 73) × (line_of longest_line ≡ dma_request 5 Read 0x3abc 4 0)
unfolding line_of field only final numbers dma fields_of number_from number_of is find
longest-good = (refl, refl)
