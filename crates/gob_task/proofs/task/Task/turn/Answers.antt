use Rattle.std.proofs.Common.{◌≡◌, ◌+◌, ◌-◌, true, false, min, length, take, refl, ap, subst, ◌∙◌, arith}
use Rattle.gob_bytes.specs.Escapes.{AreBytes}
use Rattle.gob_pipeline.proofs.Fronts.{refilled}
use Rattle.gob_task.specs.Task.{TaskValue, unit_length}
use Rattle.gob_task.specs.Turn.{TurnRulesValue, asked_for}
use Rattle.gob_task.proofs.Pulls.{Asked, long_turn, short_turn, stands_failed, stands_taken}
use Rattle.gob_task.proofs.task.Task.turn.Goals as goal

pub pull-requires-clause-room : goal.pull-requires-clause-room
pull-requires-clause-room g c =
    omega (
      arith,
      c.min-asked.ensures,
      c.from.ensures,
      ap (λ (r : TurnRulesValue). r.piece) c.rules.view_is,
      ap length c.as_mut_slice.ensures.value,
      ap (λ b. b.piece) c.bench.view_is,
      c.requires.bench.piece,
    )

pub take-requires-clause-bytes : goal.take-requires-clause-bytes
take-requires-clause-bytes g c = subst AreBytes (ap (λ t. t.unit.part) c.self.view_is) c.pull.ensures.bytes

pub returns-in-Ok-clause-turn : goal.returns-in-Ok-clause-turn
returns-in-Ok-clause-turn g c =
    let left = unit_length c.self.inside.unit - c.self.inside.machine.seen in
    let inside : c.min-asked.result ≡ min c.rules.inside.piece left =
    omega (arith, c.min-asked.ensures, c.seen.ensures, c.from.ensures) in
    let number : c.min-asked.result ≡ asked_for c.args.rules.now.piece c.args.self.now =
    inside ∙ (ap (λ (r : TurnRulesValue). min r.piece left) c.rules.view_is
    ∙ ap (asked_for c.args.rules.now.piece) c.self.view_is) in
    let asked : Asked c.args.rules.now c.args.self.now c.min-asked.result (c.self.inside.unit.lo + c.seen-2.result)
    c.self.inside.unit.part = record {
      number = number;
      unit = ap (λ t. t.unit.part) c.self.view_is;
      place = ap (λ n. c.self.inside.unit.lo + n) c.seen-2.ensures
          ∙ ap (λ (t : TaskValue). t.unit.lo + t.machine.seen) c.self.view_is;
    } in
    short_turn c.args.rules.now c.args.self.now c.min-asked.result (c.self.inside.unit.lo + c.seen-2.result)
    c.in-Ok.given
    c.self.inside.unit.part c.pull.new.piece _ _ asked
    (record {
      room = omega (
        arith,
        number,
        c.pull.ensures.room,
        ap length c.as_mut_slice.ensures.value,
        ap (λ b. b.piece) c.bench.view_is,
        c.requires.bench.piece,
      );
      within = c.in-Ok.ensures.within;
      bytes = c.in-Ok.ensures.front;
      pulled = c.in-Ok.ensures.counted;
      source = c.in-Ok.ensures.cause.same (λ e. let no : false ≡ true = e in cc);
      planned = c.in-Ok.ensures.planned;
    })
    c.if-given-asked.true refl refl

pub returns-in_ok-turn-in-Ok-2-clause-turn : goal.returns-in_ok-turn-in-Ok-2-clause-turn
returns-in_ok-turn-in-Ok-2-clause-turn g c =
    let left = unit_length c.self.inside.unit - c.self.inside.machine.seen in
    let inside : c.min-asked.result ≡ min c.rules.inside.piece left =
    omega (arith, c.min-asked.ensures, c.seen.ensures, c.from.ensures) in
    let number : c.min-asked.result ≡ asked_for c.args.rules.now.piece c.args.self.now =
    inside ∙ (ap (λ (r : TurnRulesValue). min r.piece left) c.rules.view_is
    ∙ ap (asked_for c.args.rules.now.piece) c.self.view_is) in
    let asked : Asked c.args.rules.now c.args.self.now c.min-asked.result (c.self.inside.unit.lo + c.seen-2.result)
    c.self.inside.unit.part = record {
      number = number;
      unit = ap (λ t. t.unit.part) c.self.view_is;
      place = ap (λ n. c.self.inside.unit.lo + n) c.seen-2.ensures
          ∙ ap (λ (t : TaskValue). t.unit.lo + t.machine.seen) c.self.view_is;
    } in
    let back = refilled c.bench.inside.piece.len c.pull.new.piece c.bench.inside.piece.items
    (omega (arith, c.pull.ensures.room, c.as_mut_slice.ensures.len)) in
    let piece : take c.min-asked.result c.deref.result.now ≡ take c.min-asked.result c.pull.new.piece =
    ap (take c.min-asked.result) (c.deref.ensures.value ∙ back) in
    long_turn c.args.rules.now c.args.self.now c.take.new.self c.min-asked.result
    (c.self.inside.unit.lo + c.seen-2.result) c.in-Ok.given c.self.inside.unit.part c.pull.new.piece
    (take c.min-asked.result c.deref.result.now) c.in_ok-turn-in-Ok-2.turn _ _ asked
    (record {
      room = omega (
        arith,
        number,
        c.pull.ensures.room,
        ap length c.as_mut_slice.ensures.value,
        ap (λ b. b.piece) c.bench.view_is,
        c.requires.bench.piece,
      );
      within = c.in-Ok.ensures.within;
      bytes = c.in-Ok.ensures.front;
      pulled = c.in-Ok.ensures.counted;
      source = c.in-Ok.ensures.cause.same (λ e. let no : false ≡ true = e in cc);
      planned = c.in-Ok.ensures.planned;
    })
    c.if-given-asked.false piece c.in_ok-turn-in-Ok-2.ensures.taken
    c.take.ensures.below c.take.ensures.cause.later

pub returns-in_ok-turn-in-Ok-2-clause-stands : goal.returns-in_ok-turn-in-Ok-2-clause-stands
returns-in_ok-turn-in-Ok-2-clause-stands g c =
    stands_taken c.args.rules.now c.args.self.now c.take.new.self c.requires.stands.0
    (take c.min-asked.result c.deref.result.now) c.in_ok-turn-in-Ok-2.turn _ _
    (c.in_ok-turn-in-Ok-2.ensures.taken c.requires.stands.0 c.requires.stands.1)

pub returns-in_ok-turn-in-Err-clause-stands : goal.returns-in_ok-turn-in-Err-clause-stands
returns-in_ok-turn-in-Err-clause-stands g c =
    stands_failed c.args.rules.now c.args.self.now c.begin_anew.new.self c.in_ok-turn-in-Err.turn
    c.in_ok-turn-in-Err.ensures.ends c.in_ok-turn-in-Err.ensures.anew
