use Rattle.std.proofs.Common.{◌≡◌, ◌<◌, ◌≤◌, ◌++◌, ◌∷◌, [], true, false, cond, length, sym, ap, subst, ◌∙◌}
use Rattle.std.proofs.Common.{arith}
use Rattle.std.specs.List.{list_any, position_or_len}
use Rattle.std.specs.Str.{bytes_eq}
use Rattle.gob_state.proofs.NextLemmas.{none_there, one_there}
use Rattle.gob_state.proofs.next.pipelines_with.Goals as goal

pub returns-then-place_of-len : goal.returns-then-place_of-len
returns-then-place_of-len c =
    let p = c.args.pipeline.now in
    let ps = c.args.pipelines.now in
    let place = c.place_of.ensures ∙ ap (position_or_len (bytes_eq c.args.pipeline.now)) c.as_slice.ensures in
    let inside : position_or_len (bytes_eq c.args.pipeline.now) c.in_ok-all.all < length c.in_ok-all.all =
    let below = c.if-place_of-len.true in let size = c.len.ensures in omega arith in
    let there = subst (λ xs. list_any (bytes_eq c.args.pipeline.now) xs ≡ true) c.in_ok-all.ensures
    (one_there c.args.pipeline.now c.in_ok-all.all inside) in
    c.in_ok-all.ensures ∙ sym (ap (λ b. cond b ps (ps ++ p ∷ [])) there)

pub returns : goal.returns
returns c =
    let p = c.args.pipeline.now in
    let ps = c.args.pipelines.now in
    let place = c.place_of.ensures ∙ ap (position_or_len (bytes_eq c.args.pipeline.now)) c.as_slice.ensures in
    let outside : length c.in_ok-all.all ≤ position_or_len (bytes_eq c.args.pipeline.now) c.in_ok-all.all =
    let past = c.if-place_of-len.false in let size = c.len.ensures in omega arith in
    let none = subst (λ xs. list_any (bytes_eq c.args.pipeline.now) xs ≡ false) c.in_ok-all.ensures
    (none_there c.args.pipeline.now c.in_ok-all.all outside) in
    c.in_ok-push.ensures.ok ∙ (λ j. c.in_ok-all.ensures j ++ c.in_ok-text.ensures j ∷ [])
    ∙ sym (ap (λ b. cond b ps (ps ++ p ∷ [])) none)
