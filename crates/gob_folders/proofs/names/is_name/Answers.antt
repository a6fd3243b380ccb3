use Rattle.std.proofs.Common.{rules, tests, lit<}
use Rattle.std.proofs.lemmas.Iterator.Search.{all_from_yields_List}
use Rattle.std.proofs.lemmas.Iterator.Splits.{YieldsList-from_str_split}
use Rattle.gob_folders.specs.Names.{is_component, is_name}
use Rattle.gob_folders.proofs.names.is_name.Goals as goal

pub returns : goal.returns
unfolding is_name
returns c = all_from_yields_List is_component _ _ _ c.all.ensures.ran
    (YieldsList-from_str_split 47 c.args.name.now (lit< tt) c.split.ensures.text c.split.ensures.has_more
    c.split.ensures.pattern) (λ x b q k. search (rules, tests))
