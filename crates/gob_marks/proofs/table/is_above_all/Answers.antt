use Rattle.std.proofs.Common.{◌≡◌, ◌-◌, ◌==◌, true, ℕ, List, length, ap, sym, subst, ◌∙◌}
use Rattle.std.specs.declared.cmp.Ordering.TheVariants.{Less}
use Rattle.gob_bytes.specs.Tables.{Table, name_cmp}
use Rattle.gob_ledger.specs.Marks.{Marks}
use Rattle.gob_marks.proofs.Rows.{last_decides, some_row}
use Rattle.gob_marks.proofs.table.is_above_all.Goals as goal

pub returns : goal.returns
returns c =
    let count = some_row c.args.parts.now
    (λ none. let empty : c.is_empty.result ≡ true =
    c.is_empty.ensures ∙ ap (λ (t : Table Marks). length t == 0) none in cc) in
    let d = last_decides c.args.parts.now
    (length c.args.parts.now - 1) c.index-parts-parts.result c.args.name.now c.requires count c.index-parts-parts.is in
    let named : c.as_str-last.result.now ≡ c.index-parts-parts.result.0 =
    c.as_str-last.ensures ∙ sym (ap (λ (e : List ℕ × Marks). e.0) c.index-parts-parts.is) in (
      λ yes. d.0 (subst (λ n. name_cmp n c.args.name.now ≡ Less) named (c.is_below.ensures.0 yes)),
      λ all. c.is_below.ensures.1 (subst (λ n. name_cmp n c.args.name.now ≡ Less) (sym named) (d.1 all)),
    )
