-- What a line of replay text says.
--     line_of l            what line l says: its first field picks the form that the other fields have to take; bad where they do not
--     Form                what the fields after the first say; forms: the first fields, each with its form (size_line .. priority_line);
--                         request_forms: those of requests; firmware_forms: those of firmware
--     field read k        a form: a field that `read` takes, then the form that k gives for what was read
--     final read k        a form: one more field, that `read` takes; the line says what k gives
--     numbers k           a form: two more fields, both numbers
--     tables, directions, parts    the names that a field can hold, each with what it names
--     sized, dma          a size line within its limits (most_pes and so on), a DMA whose data x are in 32 bits; else bad
-- All numbers are hexadecimal. A number that a request can hold and no table has (a requester of 2 ^ 20, a width of 3) makes no line bad: the bridge
-- answers such a request. The limits of a set line's index and value are those of the tables and are asked where the sizes are known.
-- Assumes nothing.
use Rattle.std.specs.Prelude.{cond, ◌&&◌, List, [], ◌∷◌, ℕ, ◌^◌, ltb, leb, Option, None, Some, Ok}
use Prim.Native.String.{String}
use Rattle.kinds.specs.declared.request.Direction.{Direction}
use Rattle.kinds.specs.declared.request.Direction.TheVariants.{Read, Write}
use Rattle.kinds.specs.declared.request.Part.{Part}
use Rattle.kinds.specs.declared.request.Part.TheVariants.{Mmio, Dma as DmaPart, Record}
use Rattle.kinds.specs.declared.request.Request.TheVariants.{Dma, Load, Store, Error, Clear, End, Priority}
use Rattle.replay_text.specs.declared.Table.{Table}
use Rattle.replay_text.specs.declared.Table.TheVariants.{Requesters, Entries, Memory, Peers, Interrupts, Windows, Segments, State}
use Rattle.replay_text.specs.Results.{Parsed, bad}
use Rattle.replay_text.specs.declared.Line.TheVariants.{Size, Set, Request}
use Rattle.replay_text.specs.Field.{fields_of, number_of, only}
use Rattle.replay_text.specs.Word.{find}

-- a form: what the fields that are left say
abbrev pub Form : Type 0
Form = List (List ℕ) → Parsed

-- what was read, and what follows of it
abbrev pub given : {A : Type 0} → Option A → (A → Parsed) → Parsed
given None k = bad
given (Some a) k = k a

unfoldable pub field : {A : Type 0} → (List ℕ → Option A) → (A → Form) → Form
field read k [] = bad
field read k (f ∷ fs) = given (read f) (λ a. k a fs)

unfoldable pub final : {A : Type 0} → (List ℕ → Option A) → (A → Parsed) → Form
final read k fs = given (only read fs) k

unfoldable pub numbers : (ℕ → ℕ → Parsed) → Form
numbers k = field number_of (λ a. final number_of (k a))

abbrev pub tables : List (String × Table)
tables =
    ("requesters", Requesters)
    ∷ ("translation", Entries)
    ∷ ("memory", Memory)
    ∷ ("peers", Peers)
    ∷ ("interrupts", Interrupts)
    ∷ ("windows", Windows)
    ∷ ("segments", Segments)
    ∷ ("state", State)
    ∷ []

abbrev pub directions : List (String × Direction)
directions = ("r", Read) ∷ ("w", Write) ∷ []

abbrev pub parts : List (String × Part)
parts = ("mmio", Mmio) ∷ ("dma", DmaPart) ∷ ("record", Record) ∷ []

abbrev pub most_pes : ℕ
most_pes = 16

abbrev pub most_interrupts : ℕ
most_interrupts = 64

abbrev pub most_requesters : ℕ
most_requesters = 64

abbrev pub most_memory : ℕ
most_memory = 4096

unfoldable pub sized : (pes interrupts requesters memory : ℕ) → Parsed
sized n m r w =
    cond (leb 1 n && leb n most_pes && leb m most_interrupts && leb 1 r && leb r most_requesters && leb w most_memory) (Ok (Size n m r w)) bad

unfoldable pub dma : (requester : ℕ) → Direction → (address length x : ℕ) → Parsed
dma q d a n x =
    cond (ltb x (2 ^ 32)) (Ok (Request (Dma (record { requester = q; direction = d; address = record { 0 = a }; length = n; «data» = x })))) bad

abbrev pub size_line : Form
size_line = field number_of (λ n. field number_of (λ m. numbers (λ r w. sized n m r w)))

abbrev pub set_line : Form
set_line = field (find tables) (λ t. numbers (λ i v. Ok (Set t i v)))

abbrev pub dma_line : Form
dma_line = field number_of (λ q. field (find directions) (λ d. field number_of (λ a. numbers (λ n x. dma q d a n x))))

abbrev pub load_line : Form
load_line = numbers (λ a w. Ok (Request (Load (record { 0 = a }) w)))

abbrev pub store_line : Form
store_line = numbers (λ a w. Ok (Request (Store (record { 0 = a }) w)))

abbrev pub error_line : Form
error_line = final number_of (λ q. Ok (Request (Error q)))

abbrev pub clear_line : Form
clear_line = field number_of (λ p. final (find parts) (λ c. Ok (Request (Clear p c))))

abbrev pub end_line : Form
end_line = final number_of (λ i. Ok (Request (End i)))

abbrev pub priority_line : Form
priority_line = numbers (λ i p. Ok (Request (Priority i p)))

-- the lines of firmware, those of all requests, and all lines
abbrev pub firmware_forms : List (String × Form)
firmware_forms = ("clear", clear_line) ∷ ("end", end_line) ∷ ("prio", priority_line) ∷ []

abbrev pub request_forms : List (String × Form)
request_forms = ("dma", dma_line) ∷ ("load", load_line) ∷ ("store", store_line) ∷ ("error", error_line) ∷ firmware_forms

abbrev pub forms : List (String × Form)
forms = ("size", size_line) ∷ ("set", set_line) ∷ request_forms

-- what a first field and the fields after it say by a list of forms
unfoldable pub formed : List (String × Form) → List ℕ → Form
formed fs word rest = given (find fs word) (λ form. form rest)

unfoldable pub line_of : List ℕ → Parsed
line_of l = field (find forms) (λ form. form) (fields_of l)
