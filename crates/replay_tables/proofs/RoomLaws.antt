-- Tables of the largest size have room for every line.
--     largest             the lengths of the tables for 16 PEs, 64 interrupts, 64 requesters and 4,096 words of memory
--     line-room           whatever the line, such tables have room for what it asks
-- Assumes nothing.
use Rattle.std.specs.Prelude.{◌≡◌, refl, true, ◌&&◌, List, ℕ, ◌*◌, leb}
use Rattle.std.proofs.Common.{arith, le-leb, leb-true}
use Rattle.kinds.proofs.Tests.{by_cases, and_left, and_right}
use Rattle.kinds.specs.declared.record.Lengths.{Lengths}
use Rattle.replay_tables.specs.Lent.{room_for}
use Rattle.replay_text.proofs.EveryLine.{within, every_line}
use Rattle.replay_text.specs.Line.{most_pes, most_interrupts, most_requesters, most_memory, sized, line_of}
use Rattle.replay_text.specs.Results.{Parsed}
use Rattle.profile.specs.Tables.{entry_words, peer_words, interrupt_words, window_words, segment_count, state_length}

abbrev pub largest : Lengths
largest = record {
  requesters = most_requesters;
  entries = most_pes * entry_words;
  memory = most_memory;
  peers = most_pes * peer_words;
  interrupts = most_interrupts * interrupt_words;
  windows = window_words;
  segments = segment_count;
  state = state_length most_pes;
}

abbrev Roomy : Parsed → Type 0
Roomy l = room_for l largest ≡ true

size_room : (n m r w : ℕ) → Roomy (sized n m r w)
unfolding room_for sized
size_room n m r w =
    by_cases (within n m r w)
    (λ t.
    let a = and_left (leb 1 n && leb n most_pes && leb m most_interrupts && leb 1 r && leb r most_requesters) (leb w most_memory) t in
    let b = and_left (leb 1 n && leb n most_pes && leb m most_interrupts && leb 1 r) (leb r most_requesters) a in
    let c = and_left (leb 1 n && leb n most_pes && leb m most_interrupts) (leb 1 r) b in
    let d = and_left (leb 1 n && leb n most_pes) (leb m most_interrupts) c in
    let pes = leb-true n most_pes (and_right (leb 1 n) (leb n most_pes) d) in
    let interrupts = leb-true m most_interrupts (and_right (leb 1 n && leb n most_pes) (leb m most_interrupts) c) in
    rw (
      t,
      and_left (leb 1 n) (leb n most_pes) d,
      le-leb (n * entry_words) (most_pes * entry_words) (omega (arith, pes)),
      le-leb (n * peer_words) (most_pes * peer_words) (omega (arith, pes)),
      le-leb (state_length n) (state_length most_pes) (omega (arith, pes)),
      le-leb (m * interrupt_words) (most_interrupts * interrupt_words) (omega (arith, interrupts)),
      and_right (leb 1 n && leb n most_pes && leb m most_interrupts && leb 1 r) (leb r most_requesters) a,
      and_right (leb 1 n && leb n most_pes && leb m most_interrupts && leb 1 r && leb r most_requesters) (leb w most_memory) t,
    ))
    (λ t. rw t)

pub line-room : (l : List ℕ) → room_for (line_of l) largest ≡ true
unfolding room_for
line-room l = every_line Roomy refl size_room (λ t i v. refl) (λ q e. refl) l
