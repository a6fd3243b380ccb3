use Rattle.std.proofs.Common.{◌+◌, ◌<◌, ◌^◌, length, filter, rules, sym, ◌∙◌, arith}
use Rattle.std.specs.Vec.Iter.{into_iter_items}
use Rattle.gob_pipeline.specs.Making.{is_left}
use Rattle.gob_pipeline.proofs.Making.{left_as_many, left_few, left_one, rest_conform, sent_next}
use Rattle.gob_pipeline.proofs.pipeline.push_rows.Goals as goal

pub overflow_add-unrouted : goal.overflow_add-unrouted
overflow_add-unrouted c =
    let r = c.args.routes.now in
    let left = into_iter_items c.loop-row.row-iterator in
    let rest = into_iter_items c.next.new.self in
    let long = c.args.rows.ok.0 in
    let within = c.args.rows.ok.1 in
    let small = c.args.rows.small in
    let few : length c.args.rows.items < 2 ^ 63 = omega (arith, long, within, small) in
    let fits : c.loop-row.unrouted + 1 < 2 ^ 64 =
    left_few r c.args.rows.items c.loop-row.unrouted (length (filter (is_left r) rest))
    (left_one r c.in-Some.row left rest c.loop-row.unrouted _ c.in-Some.ensures.steps.0
    (sym c.in_ok-routed.ensures.routed ∙ c.if-not-routed.true) c.loop-row.invariant.4) few in
    search (rules, arith)

pub loop-row-preserved-then-not-routed : goal.loop-row-preserved-then-not-routed
loop-row-preserved-then-not-routed c =
    let r = c.args.routes.now in
    let left = into_iter_items c.loop-row.row-iterator in
    let rest = into_iter_items c.next.new.self in
    let is = c.in-Some.ensures.steps.0 in (
      tt,
      tt,
      rest_conform r.columns c.in-Some.row left rest is c.loop-row.invariant.2,
      sent_next r c.in-Some.row left rest c.loop-row.items c.push.new.items _ is c.loop-row.invariant.3
          c.in_ok-routed.ensures.ok,
      left_one r c.in-Some.row left rest c.loop-row.unrouted _ is
          (sym c.in_ok-routed.ensures.routed ∙ c.if-not-routed.true) c.loop-row.invariant.4,
    )

pub loop-row-preserved : goal.loop-row-preserved
loop-row-preserved c =
    let r = c.args.routes.now in
    let left = into_iter_items c.loop-row.row-iterator in
    let rest = into_iter_items c.next.new.self in
    let is = c.in-Some.ensures.steps.0 in (
      tt,
      tt,
      rest_conform r.columns c.in-Some.row left rest is c.loop-row.invariant.2,
      sent_next r c.in-Some.row left rest c.loop-row.items c.push.new.items _ is c.loop-row.invariant.3
          c.in_ok-routed.ensures.ok,
      left_as_many r c.in-Some.row left rest c.loop-row.unrouted _ is
          (sym c.in_ok-routed.ensures.routed ∙ c.if-not-routed.false) c.loop-row.invariant.4,
    )
