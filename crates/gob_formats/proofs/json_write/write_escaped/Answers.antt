use Rattle.std.proofs.Common.{sym, refl, ◌∙◌, append-nil, arith}
use Rattle.json.specs.Print.{escape, escape_byte}
use Rattle.gob_formats.proofs.Kept.{loop_adds_at, loop_added, keeps_then}
use Rattle.gob_formats.proofs.json_write.write_escaped.Goals as goal

pub loop-b-preserved : goal.loop-b-preserved
loop-b-preserved c =
    let l = c.loop-b in (
      loop_adds_at escape escape_byte c.args.text.now l.b-index 0 c.args.into.now.items
          l.into.items c.write_byte.new.into.items
          (λ b bs. refl) (omega arith) c.in_ok-write_byte.ensures.ok l.invariant.0,
      keeps_then _ _ _ l.invariant.1 c.write_byte.ensures.keeps,
    )

pub returns-clause-ok : goal.returns-clause-ok
returns-clause-ok c =
    let l = c.loop-b in
    sym (append-nil l.into.items)
    ∙ loop_added escape c.args.text.now l.b-index c.args.into.now.items l.into.items (omega arith) l.invariant.0
