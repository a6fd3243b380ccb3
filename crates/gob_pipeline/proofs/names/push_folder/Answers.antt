use Rattle.std.proofs.Common.{◌≡◌, ◌<◌, ◌^◌, ◌++◌, [], ◌∷◌, ap, ap₂, ◌∙◌, arith, append_assoc}
use Rattle.std.specs.Fmt.{decimal}
use Rattle.std.specs.List.{list_all}
use Rattle.gob_pipeline.specs.Alphabet.{is_target_byte}
use Rattle.gob_pipeline.proofs.Spelling.{folder_name}
use Rattle.gob_pipeline.proofs.names.push_folder.Goals as goal

pub returns-clause-spelled : goal.returns-clause-spelled
returns-clause-spelled c =
    let kind = c.args.kind.now in
    let branch = c.args.branch in
    let place = c.args.place.now in
    let first : c.extend_from_slice.new.self.items ≡ kind = c.in_ok-extend_from_slice.ensures.items
    ∙ ap₂ (λ a b. a ++ b) c.requires.empty c.as_bytes.ensures.value in
    let second : c.push_u64.new.into.items ≡ kind ++ decimal branch =
    c.in_ok-push_u64.ensures.ok ∙ ap₂ (λ a n. a ++ decimal n) first c.from.ensures in
    let third : c.push.new.self.items ≡ (kind ++ decimal branch) ++ 47 ∷ [] =
    c.in_ok-push.ensures.items ∙ ap (λ a. a ++ 47 ∷ []) second in
    let whole : c.extend_from_slice-2.new.self.items ≡ kind ++ decimal branch ++ 47 ∷ place =
    c.in_ok-extend_from_slice-2.ensures.items ∙ ap₂ (λ a b. a ++ b) third c.as_bytes-2.ensures.value
    ∙ append_assoc (kind ++ decimal branch) (47 ∷ []) place in
    let small : branch < 2 ^ 64 = omega (arith, c.ranges.branch.fits) in
    ap (list_all is_target_byte) whole ∙ folder_name kind place branch small c.requires.kind c.requires.placed
