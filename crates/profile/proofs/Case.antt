-- The rows of the tables of cases: a request on a small bridge, its answer, and what it leaves.
--     Case                the tables, memory and what is written, the request, its answer, and all words that may change, after it
--     Shown               an answer, and all words that may change, after it
--     given, stated       what the definition gives of a row, and what the row says
--     gib4                4 GiB, the installed size of every bridge here; largest: the largest size there is; installing i f: the bridge f with size i
--     bridge e k v w g    4 PEs, 8 interrupts and 8 requesters, of which 1, 5 and 6 are PEs 1, 2 and 3 and the others nobody's; PE 2's two records
--                         are e and k; v, w and g are peers, windows and segments
--     entered, peered, windowed   the bridge with these records, peers, or windows and segments, and nothing else
--     plain               the bridge with 01's record: a table at 0x2000, one level, table code 1, page code 1
--     short               a bridge that reason 1 refuses: it lacks a word of the windows
--     wide n v w g        n PEs and no interrupt; requester 0 is PE 0, requester 1 the last PE
--     word_row w r v a    the words of a PE in the state, with the address of a table word in the record; state_row w r v: with none; calm: of one that is
--                         not stopped and has no record; endpoints n r: n PEs with the words r
--     ended w l           the words l of the PEs, and the fence word w after them
--     fencing w l e       the state `ended w l`, and interrupt 7 with the words e; live l e: with the fence word 0
--     idle                nobody stopped; interrupt 7 is PE 2's, with server 5, priority 6, P = Q = 0
--     states a b c d      the state of four PEs with these words, with the interrupts of `idle`; endpoint_at w r v a, endpoint w r v: PE 2's words are
--                         such a row, the others' 0
--     stopped             every PE stopped, with empty records
--     quiet n             the state of n PEs, all words 0, and no interrupt
--     empty, words a v m  a memory of 2,600 words, all 0; memory m with word v at address a
--     dma .. refuse_at    requests and the answers pass and refuse, in bare numbers
--     row                 a row; keeps: nothing changes; refuses: a refusal that changes nothing, with no word read; freezes_at: on `idle`, a refusal
--                         that freezes PE 2 alone, with its number and value in the error record, and the address of a table word in both; freezes:
--                         with none
-- Assumes nothing.
use Rattle.std.specs.Prelude.{List, [], ◌∷◌, ◌++◌, ℕ, zero, suc, ◌-◌, ◌*◌, ◌/◌, set, replicate}
use Rattle.kinds.specs.Answer.{refuse}
use Rattle.kinds.specs.declared.answer.Answer.{Answer}
use Rattle.kinds.specs.declared.answer.Answer.TheVariants.{Pass, Refuse}
use Rattle.kinds.specs.declared.answer.Reason.{Reason}
use Rattle.kinds.specs.declared.request.Direction.{Direction}
use Rattle.kinds.specs.declared.request.Direction.TheVariants.{Read, Write}
use Rattle.kinds.specs.declared.request.Request.{Request}
use Rattle.kinds.specs.declared.request.Request.TheVariants.{Dma, Load, Store}
use Rattle.profile.proofs.Opened.{opened}
use Rattle.profile.specs.Tables.{Tables, Live, entry_words, record_words, peer_words, interrupt_words, window_words, segment_count}
use Rattle.profile.specs.Step.{answered, after}

pub record Case : Type 0 where
  pub tables : Tables
  pub memory : List ℕ
  pub live : Live
  pub request : Request
  pub answer : Answer
  pub left : Live

pub record Shown : Type 0 where
  pub answer : Answer
  pub left : Live

-- to compute it is to compute the whole definition
unfoldable pub given : Case → Shown
unfolding opened
given c = record { answer = answered c.tables c.memory c.live c.request; left = after c.tables c.memory c.live c.request }

unfoldable pub stated : Case → Shown
stated c = record { answer = c.answer; left = c.left }

abbrev pub gib4 : ℕ
gib4 = 0x100000000

abbrev pub largest : ℕ
largest = 0xFFFFFFFFFFFFFFFF

abbrev pub bridge : (e k peers windows segments : List ℕ) → Tables
bridge e k v w g = record {
  sizes = record { pes = 4; interrupts = 8; requesters = 8 };
  installed = gib4;
  requesters = 9 ∷ 1 ∷ 9 ∷ 9 ∷ 9 ∷ 2 ∷ 3 ∷ 4 ∷ [];
  entries = replicate (2 * entry_words) 0 ++ (e ++ (k ++ replicate entry_words 0));
  peers = v;
  windows = w;
  segments = g;
}

abbrev pub installing : (installed : ℕ) → Tables → Tables
installing i f = record {
  sizes = f.sizes;
  installed = i;
  requesters = f.requesters;
  entries = f.entries;
  peers = f.peers;
  windows = f.windows;
  segments = f.segments;
}

abbrev pub none : List ℕ
none = replicate record_words 0

abbrev pub entered : (e k : List ℕ) → Tables
entered e k = bridge e k (replicate (4 * peer_words) 0) (replicate window_words 0) (replicate segment_count 9)

abbrev pub peered : (v : List ℕ) → Tables
peered v = bridge none none v (replicate window_words 0) (replicate segment_count 9)

abbrev pub windowed : (w g : List ℕ) → Tables
windowed w g = bridge none none (replicate (4 * peer_words) 0) w g

abbrev pub plain : Tables
plain = entered (0x2000 ∷ 1 ∷ 1 ∷ 1 ∷ []) none

abbrev pub short : Tables
short = windowed (replicate (window_words - 1) 0) (replicate segment_count 9)

abbrev pub wide : (pes : ℕ) → (peers windows segments : List ℕ) → Tables
wide n v w g = record {
  sizes = record { pes = n; interrupts = 0; requesters = 2 };
  installed = gib4;
  requesters = 0 ∷ (n - 1) ∷ [];
  entries = replicate (n * entry_words) 0;
  peers = v;
  windows = w;
  segments = g;
}

abbrev pub word_row : (stop reason value word : ℕ) → List ℕ
word_row w r v a = w ∷ r ∷ v ∷ a ∷ []

abbrev pub state_row : (stop reason value : ℕ) → List ℕ
state_row w r v = word_row w r v 0

abbrev pub calm : List ℕ
calm = state_row 0 0 0

abbrev pub endpoints : (n : ℕ) → (words : List ℕ) → List ℕ
endpoints zero r = []
endpoints (suc n) r = r ++ endpoints n r

abbrev pub ended : (fence : ℕ) → (words : List ℕ) → List ℕ
ended w l = l ++ (w ∷ [])

abbrev pub fencing : (fence : ℕ) → (endpoints interrupt : List ℕ) → Live
fencing w l e = record { state = ended w l; interrupts = replicate (7 * interrupt_words) 0 ++ e }

abbrev pub live : (endpoints interrupt : List ℕ) → Live
live l e = fencing 0 l e

abbrev pub idle : Live
idle = live (endpoints 4 calm) (2 ∷ 5 ∷ 6 ∷ 0 ∷ [])

abbrev pub states : (a b c d : List ℕ) → Live
states a b c d = live (a ++ b ++ c ++ d) (2 ∷ 5 ∷ 6 ∷ 0 ∷ [])

abbrev pub endpoint_at : (stop reason value word : ℕ) → Live
endpoint_at w r v a = states calm calm (word_row w r v a) calm

abbrev pub endpoint : (stop reason value : ℕ) → Live
endpoint w r v = endpoint_at w r v 0

abbrev pub stopped : Live
stopped = live (endpoints 4 (state_row 3 0 0)) (2 ∷ 5 ∷ 6 ∷ 0 ∷ [])

abbrev pub quiet : (pes : ℕ) → Live
quiet n = record { state = ended 0 (endpoints n calm); interrupts = [] }

abbrev pub empty : List ℕ
empty = replicate 2600 0

abbrev pub words : (at value : ℕ) → List ℕ → List ℕ
words a v m = set m (a / 8) v

abbrev pub dma : (requester : ℕ) → Direction → (address length word : ℕ) → Request
dma r d a n v = Dma (record { requester = r; direction = d; address = record { 0 = a }; length = n; «data» = v })

abbrev pub read : (requester address length : ℕ) → Request
read r a n = dma r Read a n 0

abbrev pub write : (requester address length word : ℕ) → Request
write r a n v = dma r Write a n v

abbrev pub load : (address width : ℕ) → Request
load a w = Load (record { 0 = a }) w

abbrev pub store : (address width : ℕ) → Request
store a w = Store (record { 0 = a }) w

abbrev pub pass : (address pe words : ℕ) → Answer
pass a p n = Pass (record { 0 = a }) (record { 0 = p }) n

abbrev pub row : Tables → List ℕ → Live → Request → Answer → Live → Case
row f m s q a t = record { tables = f; memory = m; live = s; request = q; answer = a; left = t }

abbrev pub keeps : Tables → List ℕ → Live → Request → Answer → Case
keeps f m s q a = row f m s q a s

abbrev pub refuses : Tables → Live → Request → Reason → Case
refuses f s q r = keeps f empty s q (refuse r)

abbrev pub refuse_at : Reason → (words word : ℕ) → Answer
refuse_at r n a = Refuse r n (record { 0 = a })

abbrev pub freezes_at : Tables → List ℕ → Request → Reason → (words number value word : ℕ) → Case
freezes_at f m q r n k v a = row f m idle q (refuse_at r n a) (endpoint_at 3 k v a)

abbrev pub freezes : Tables → List ℕ → Request → Reason → (number value : ℕ) → Case
freezes f m q r k v = freezes_at f m q r 0 k v 0
