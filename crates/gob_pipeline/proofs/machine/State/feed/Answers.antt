use Rattle.std.proofs.Common.{◌≡◌, ◌++◌, refl, sym, ap₂, ◌∙◌, subst}
use Rattle.gob_pipeline.specs.Taking.{IsOneLine}
use Rattle.gob_pipeline.proofs.Feeding.{split_off, fed_first, fed_on, fed_whole}
use Rattle.gob_pipeline.proofs.machine.State.feed.Goals as goal

pub lines-init : goal.lines-init
lines-init c = record {
  fed = fed_first c.args.pipeline.now c.args.self.now c.args.piece.now c.args.buffers.now;
  lo = refl;
  counts = refl;
  buffers = refl;
}

pub feed_line-requires-clause-line : goal.feed_line-requires-clause-line
feed_line-requires-clause-line c =
    subst IsOneLine (sym c.split_at.ensures.front) (split_off c.lines.left.now c.in-Some.end c.in-Some.ensures).line

pub lines-preserved : goal.lines-preserved
lines-preserved c =
    let inv = c.lines.invariant in
    let split = split_off c.lines.left.now c.in-Some.end c.in-Some.ensures in
    record {
      fed = fed_on c.args.pipeline.now c.args.self.now c.lines.self c.feed_line.new.self c.args.piece.now
          c.lines.left.now c.split_at.result.0.now c.split_at.result.1.now c.args.buffers.now c.lines.buffers
          c.feed_line.new.buffers inv.fed
          (split.whole ∙ ap₂ (λ a b. a ++ b) (sym c.split_at.ensures.front) (sym c.split_at.ensures.back))
          c.in_ok-feed_line.ensures.ok c.in_ok-feed_line.ensures.seen;
      lo = c.feed_line.ensures.lo ∙ inv.lo;
      counts = c.feed_line.ensures.counts ∙ inv.counts;
      buffers = c.feed_line.ensures.buffers ∙ inv.buffers;
    }

pub returns-clause-ok : goal.returns-clause-ok
returns-clause-ok c =
    fed_whole c.args.pipeline.now c.args.self.now c.lines.self c.keep.new.self c.args.piece.now c.lines.left.now
    c.args.buffers.now c.lines.buffers c.lines.invariant.fed
    (c.in_ok-keep.ensures.ok c.args.pipeline.now c.lines.buffers)
