use Rattle.std.proofs.Common.{◌≡◌, ◌++◌, [], ◌∷◌, length, map, refl, ap}
use Rattle.gob_plan.specs.declared.rows.Row.{Row}
use Rattle.gob_meaning.specs.Steps.{pieces_of}
use Rattle.gob_steps.specs.Places.{row_with}
use Rattle.gob_steps.proofs.Cuts.{after_utf8, front_stays, pieces_on, pieces_end}
use Rattle.gob_steps.proofs.pieces.push_each.Goals as goal

pub loop-piece-preserved : goal.loop-piece-preserved
loop-piece-preserved c =
    let l = c.loop-piece in
    let separator = c.args.separator.now in
    let piece = c.in-Some.piece.now in
    let after = c.in-Some.after.now in
    let copy = c.in_ok-copy.field-0 in
    let bare = c.args.bare in
    let place = c.args.place in
    let old = c.args.rows.now.items in
    let made = row_with place copy piece in
    record {
      text = after_utf8 separator l.rest.now piece after l.invariant.text c.in-Some.ensures.cases;
      front = front_stays (length old) l.rows.items c.push_piece.new.rows.items (made ∷ []) old refl l.invariant.front
          c.in_ok-push_piece.ensures.ok;
      left = pieces_on (row_with place bare) separator l.rest.now piece after l.rows.items c.push_piece.new.rows.items
          (old ++ map (row_with place bare) (pieces_of separator c.args.text.now)) made c.requires.some
          c.in-Some.ensures.cases c.in_ok-push_piece.ensures.ok
          (ap (λ (r : Row). row_with place r piece) c.in_ok-copy.ensures) l.invariant.left;
    }

pub returns-clause-ok : goal.returns-clause-ok
returns-clause-ok c =
    let l = c.loop-piece in
    let separator = c.args.separator.now in
    let bare = c.args.bare in
    let place = c.args.place in
    pieces_end (row_with place bare) separator l.rest.now l.rows.items c.push_piece-2.new.rows.items
    (c.args.rows.now.items ++ map (row_with place bare) (pieces_of separator c.args.text.now))
    (row_with place bare l.rest.now) c.in_default.ensures.cases c.in_ok-push_piece-2.ensures.ok refl l.invariant.left
