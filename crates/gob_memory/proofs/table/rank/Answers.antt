use Rattle.std.proofs.Common.{◌≡◌, ◌+◌, ◌-◌, ◌/◌, ◌<◌, ◌≤◌, length, subst, sym, arith}
use Rattle.std.specs.declared.cmp.Ordering.TheVariants.{Greater}
use Rattle.gob_bytes.specs.Tables.{name_cmp}
use Rattle.gob_memory.specs.Places.{rank_of}
use Rattle.gob_memory.proofs.Places.{rank-le, passed, stopped}
use Rattle.gob_memory.proofs.table.rank.Goals as goal

pub loop-low-init : goal.loop-low-init
loop-low-init g c = (omega arith, rank-le c.args.table.now c.args.name.now, omega arith)

pub loop-low-preserved-then-is_above : goal.loop-low-preserved-then-is_above
loop-low-preserved-then-is_above g c =
    let middle = c.loop-low.low + (c.loop-low.high - c.loop-low.low) / 2 in
    let within : middle < length c.args.table.now = omega arith in
    let above = subst (λ n. name_cmp c.args.name.now n ≡ Greater) c.as_str.ensures
    (c.is_above.ensures.0 c.if-is_above.true) in
    let later : middle < rank_of c.args.table.now c.args.name.now =
    passed c.args.table.now c.args.name.now middle c.index-table-middle.result c.requires within above in
    (omega (arith, later), omega arith, omega arith)

pub loop-low-preserved : goal.loop-low-preserved
loop-low-preserved g c =
    let middle = c.loop-low.low + (c.loop-low.high - c.loop-low.low) / 2 in
    let within : middle < length c.args.table.now = omega arith in
    let still : rank_of c.args.table.now c.args.name.now ≤ middle =
    stopped c.args.table.now c.args.name.now middle c.index-table-middle.result within
    (λ above. let both = c.is_above.ensures.1 (subst (λ n. name_cmp c.args.name.now n ≡ Greater) (sym c.as_str.ensures)
    above) in cc) in
    (omega arith, still, omega arith)
