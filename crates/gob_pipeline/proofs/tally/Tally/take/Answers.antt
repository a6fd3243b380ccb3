use Rattle.std.proofs.Common.{◌≡◌, ◌+◌, ◌*◌, List, true, length, sym, ap, ◌∙◌, subst}
use Rattle.std.specs.List.{list_all}
use Rattle.gob_bytes.specs.Lines.{Line}
use Rattle.gob_meaning.specs.Items.{RowMade, LineMade}
use Rattle.gob_meaning.specs.Fold.{items_in}
use Rattle.gob_plan.specs.declared.units.Counts.{Counts}
use Rattle.gob_meaning.specs.Sums.{sum_of}
use Rattle.gob_pipeline.specs.Taking.{counts_of_line, item_fits, line_of_end}
use Rattle.gob_pipeline.proofs.Sent.{items_fit}
use Rattle.gob_pipeline.proofs.Taken.{stopped_takes, counted_takes, not_some, counts_length}
use Rattle.gob_pipeline.proofs.tally.Tally.take.Goals as goal

pub returns-in-Some-clause-ok : goal.returns-in-Some-clause-ok
returns-in-Some-clause-ok c =
    stopped_takes c.args.pipeline.now c.args.self.now c.args.at c.args.raw.now c.args.buffers.now
    (line_of_end c.in_ok-end.end c.args.raw.now c.make_line.new.workspace.items) c.stop_at-self.result
    c.in-Some.field-0 c.in_ok-end.ensures.made (c.stop_at-self.ensures c.args.raw.now) c.in-Some.is

pub send_line-requires-clause-fit : goal.send_line-requires-clause-fit
send_line-requires-clause-fit c =
    let body = c.requires.ends.0 in
    let line : Line = record { start = 0; body = body } in
    let made = c.in_ok-end.ensures.made line (sym c.requires.ends.1) in
    let slots = 2 * length c.args.pipeline.now.branches + 1 in
    subst (λ n. list_all (item_fits n) c.make_line.new.workspace.items ≡ true) (sym c.requires.slots)
    (subst (λ (is : List RowMade). list_all (item_fits slots) is ≡ true)
    (ap items_in made ∙ c.in_ok-end.ensures.items) (items_fit c.args.pipeline.now c.args.at line))

pub returns-clause-ok : goal.returns-clause-ok
returns-clause-ok c =
    let line = line_of_end c.in_ok-end.end c.args.raw.now c.make_line.new.workspace.items in
    counted_takes c.args.pipeline.now c.args.self.now c.args.at c.args.raw.now c.args.buffers.now
    c.send_line.new.buffers line c.stop_at-self.result c.add_line.new.counts c.left_behind-self.result
    c.in_ok-end.ensures.made (c.stop_at-self.ensures c.args.raw.now)
    (not_some c.stop_at-self.result c.in_default.not-Some) c.in_ok-send_line.ensures.ok
    (c.add_line.ensures c.args.raw.now ∙ ap (λ n. sum_of c.args.self.now.counts (counts_of_line n line))
    c.requires.branches)
    (c.left_behind-self.ensures c.args.raw.now c.make_line.new.workspace.items)

pub returns-clause-counts : goal.returns-clause-counts
returns-clause-counts c =
    let line = line_of_end c.in_ok-end.end c.args.raw.now c.make_line.new.workspace.items in
    ap (λ (k : Counts). length k.branches) (c.add_line.ensures c.args.raw.now)
    ∙ counts_length c.args.self.now.counts line
