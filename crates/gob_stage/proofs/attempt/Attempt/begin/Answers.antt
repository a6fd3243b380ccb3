use Rattle.std.proofs.Common.{ap, ◌∙◌}
use Rattle.gob_stage.proofs.Opened.{Opened, kept_added, staged_new, view_added}
use Rattle.gob_stage.proofs.attempt.Attempt.begin.Goals as goal

pub invariant_of-self-2 : goal.invariant_of-self-2
invariant_of-self-2 g c =
    let o : Opened c.args.self.now c.self.inside.folder c.self.inside.files.items = record {
      folder_is = ap (λ v. v.folder) c.self.view_is;
      begun_is = ap (λ v. v.begun) c.self.view_is;
      kept = c.self.invariant;
    } in
    kept_added _ _ _ _ c.args.target.now _ o c.requires.named c.in_ok-name.ensures.name c.in_ok-set.ensures.ok

pub returns-clause-begun : goal.returns-clause-begun
returns-clause-begun g c = view_added _ _ _ _ _ c.args.target.now _ c.self.view_is c.in_ok-set.ensures.ok

pub returns-clause-disk : goal.returns-clause-disk
returns-clause-disk g c =
    c.in_ok-make_file.ensures.disk ∙ staged_new c.args.self.now c.args.target.now c.as_str.result.now c.args.bytes.now _
    c.requires.new (c.as_str.ensures ∙ c.in_ok-name.ensures.name)
