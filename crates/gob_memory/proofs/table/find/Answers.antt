use Rattle.std.proofs.Common.{◌≡◌, List, ℕ, sym, ap, subst, ◌∙◌, true, arith}
use Rattle.std.proofs.lemmas.List.{get_or_default}
use Rattle.std.specs.Str.{bytes_eq}
use Rattle.gob_bytes.proofs.Tables.{name_itself}
use Rattle.gob_memory.proofs.Places.{goes}
use Rattle.gob_memory.proofs.table.find.Goals as goal
use Rattle.gob_memory.proofs.table.find.Goals.{else-place-table-via-then-place-table+else-eq}
use Rattle.gob_memory.proofs.table.find.Goals.{else-place-table-via-else-place-table}

pub returns-else-place-table : goal.returns-else-place-table
returns-else-place-table g c =
    elim c.else-place-table.branch [
      | else-place-table-via-then-place-table+else-eq w ↦ goes c.args.table.now c.args.name.now c.rank-place.result
          c.requires c.rank-place.ensures (λ d below same.
          let named : w.as_str.result.now ≡ c.args.name.now = w.as_str.ensures
          ∙ ap (λ (e : List ℕ × _). e.0) (get_or_default c.args.table.now c.rank-place.result
          w.index-table-place.result d below) ∙ same in
          let alike : bytes_eq w.as_str.result.now c.args.name.now ≡ true =
          subst (λ n. bytes_eq n c.args.name.now ≡ true) (sym named) (name_itself c.args.name.now) in
          cc)
      | else-place-table-via-else-place-table w ↦ goes c.args.table.now c.args.name.now c.rank-place.result c.requires
          c.rank-place.ensures (λ d below same. omega arith)
    ]
