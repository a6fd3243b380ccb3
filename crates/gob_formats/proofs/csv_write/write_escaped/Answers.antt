use Rattle.std.proofs.Common.{[], ◌∷◌, sym, ◌∙◌, append-nil, arith}
use Rattle.csv.specs.Writing.{default_writer, escaped}
use Rattle.gob_formats.proofs.Kept.{loop_adds_at, loop_added, keeps_then}
use Rattle.gob_formats.proofs.Written.{escaped_splits}
use Rattle.gob_formats.proofs.csv_write.write_escaped.Goals as goal

pub loop-b-preserved : goal.loop-b-preserved
loop-b-preserved c =
    let l = c.loop-b in (
      loop_adds_at (escaped default_writer) (λ b. escaped default_writer (b ∷ [])) c.args.field.now l.b-index 0
          c.args.into.now.items
          l.into.items c.write_byte.new.into.items
          escaped_splits (omega arith) c.in_ok-write_byte.ensures.ok l.invariant.0,
      keeps_then _ _ _ l.invariant.1 c.write_byte.ensures.keeps,
    )

pub returns-clause-ok : goal.returns-clause-ok
unfolding escaped
returns-clause-ok c =
    let l = c.loop-b in
    sym (append-nil l.into.items)
    ∙ loop_added (escaped default_writer) c.args.field.now l.b-index c.args.into.now.items l.into.items
    (omega arith) l.invariant.0
