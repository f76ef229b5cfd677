-- `isolation_reach::levels::mark_levels` meets its contract. The invariant: the marks from the top are those from here. Assumes nothing.
use Rattle.isolation_reach.proofs.MarkingLaws as laws
use Rattle.isolation_reach.proofs.levels.mark_levels.Goals as goal

pub loop-below-preserved : goal.loop-below-preserved
loop-below-preserved c =
    let same = c.loop-below.invariant.same in
    let done = c.mark_upper-table.ensures in
    record {
      same = record { memory = same.memory; marks = same.marks; tables = same.tables; under = same.under };
      marks = laws.levels_next _ _ _ _ _ _ _ _ _ _ _ c.loop-below.invariant.marks _ same.memory c.loop-below-test.true c.index_of-index.ensures done.marks done.tables done.leads;
    }

pub returns : goal.returns
returns c =
    let same = c.loop-below.invariant.same in
    record {
      same = record { memory = same.memory; marks = same.marks; tables = same.tables; under = same.under };
      holds = laws.levels_done _ _ _ _ _ _ _ _ _ _ _ c.loop-below.invariant.marks _ same.memory c.loop-below-test.false c.index_of-index-2.ensures c.mark_words.ensures;
    }
