-- What a source tells of is more pulls, one after the other.
use Rattle.std.proofs.Common.{◌≡◌, ⊎_elim, [], ◌∷◌, ◌++◌, refl, sym, ap, subst, ◌∙◌, Some, None, option_map}
use Rattle.std.specs.declared.option.Option.{Option}
use Rattle.std.proofs.lemmas.List.{append-nil, append_assoc}
use Rattle.gob_device.specs.Supply.{Supply, with_pulls}
use Rattle.gob_turns.specs.Taken.{HasPulled}
use Rattle.gob_turns.specs.Underway.{AtMostOnePull}

pub pulled_nothing : (supply : Option Supply) → HasPulled supply supply
pulled_nothing None = ([], refl)
pulled_nothing (Some s) = ([], ap (λ ps. Some (record s { pulls = ps })) (sym (append-nil s.pulls)))

pub pulled_once : (old new : Option Supply) → AtMostOnePull old new → HasPulled old new
pulled_once old new pulls = ⊎_elim
    (λ none. subst (HasPulled old) (sym none) (pulled_nothing old))
    (λ one. (one.0 ∷ [], one.1))
    pulls

pub pulled_then : (old mid new : Option Supply) → HasPulled old mid → HasPulled mid new → HasPulled old new
pulled_then old mid new first later = (
  first.0 ++ later.0,
  later.1 ∙ (ap (option_map (with_pulls later.0)) first.1 ∙ one_by_one old),
)
  where
    one_by_one : (o : Option Supply)
        → option_map (with_pulls later.0) (option_map (with_pulls first.0) o)
        ≡ option_map (with_pulls (first.0 ++ later.0)) o
    one_by_one None = refl
    one_by_one (Some s) = ap (λ ps. Some (record s { pulls = ps })) (append_assoc s.pulls first.0 later.0)
