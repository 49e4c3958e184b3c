use Rattle.std.proofs.Common.{◌≡◌, ◌-◌, ◌+◌}
use Rattle.std.specs.Prelude.{◌||◌, filter}
use Rattle.std.specs.List.{list_any}
use Rattle.lab_sweep.specs.Sweep.{alone, any_broken, any_spent, is_broken, is_spent, end_at, outcome_at, outcomes, outcomes_from, is_mine, counts_from}
use Rattle.lab_sweep.proofs.sweeping.sweep_counts.Given as goal

-- the board stands where it stood, and with the counts that are left all is what is wanted
abbrev pub invariant-loop-count : goal.invariant-loop-count
invariant-loop-count g l =
    let m = g.D.Device.means in
    let es = l.events.list in
    let left = filter (is_mine l.counts) (counts_from (l.counts.to + 1 - l.count) l.count) in
    record {
      own : l.own ≡ alone l.board;
      rows : outcomes_from (λ count. outcome_at m es l.how l.board count) l.found.outcomes left ≡ outcomes m es l.how l.board;
      broken : (l.found.broken || list_any (λ count. is_broken (end_at m es l.how l.board count)) left) ≡ any_broken m es l.how l.board;
      spent : (l.found.spent || list_any (λ count. is_spent (end_at m es l.how l.board count)) left) ≡ any_spent m es l.how l.board;
    }
