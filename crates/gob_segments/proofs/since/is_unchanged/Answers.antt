use Rattle.std.proofs.Common.{◌≡◌, ◌∙◌, length, ap, sym, unwrap_or, option_copied}
use Rattle.std.proofs.lemmas.Bool.{eqb-true}
use Rattle.gob_ledger.specs.Marks.{Marks}
use Rattle.gob_ledger.specs.Next.{no_marks}
use Rattle.gob_segments.proofs.Later.{nothing_new}
use Rattle.gob_segments.proofs.since.is_unchanged.Goals as goal

pub returns-then-next_of-next : goal.returns-then-next_of-next
returns-then-next_of-next c = λ same.
    let b : Marks = unwrap_or (option_copied c.args.before) no_marks in
    let end : b.next ≡ c.args.after.now.next =
    sym c.next_of.ensures.next ∙ c.if-next_of-next.true ∙ c.next.ensures.next in
    let as_many : length b.finished ≡ length c.args.after.now.finished =
    sym c.done_count.ensures ∙ eqb-true c.done_count.result _ same ∙ ap length c.done.ensures.done in
    nothing_new b c.args.after.now c.requires c.next_of.ensures.tiled c.next.ensures.tiled end as_many
