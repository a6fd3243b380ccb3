use Rattle.std.proofs.Common.{◌≡◌, true, false}
use Rattle.std.specs.Str.{bytes_eq}
use Rattle.gob_state.proofs.NextLemmas.{its_place, other_place}
use Rattle.gob_state.proofs.next.place_of.Goals as goal

pub returns-then-eq : goal.returns-then-eq
returns-then-eq c =
    let yes : bytes_eq c.args.pipeline.now c.index-pipelines-i.result ≡ true = cc in
    its_place c.args.pipeline.now c.args.pipelines.now c.loop-i.i c.index-pipelines-i.result c.loop-i-test.true
    c.index-pipelines-i.is c.loop-i.invariant yes

pub loop-i-preserved : goal.loop-i-preserved
loop-i-preserved c =
    let no : bytes_eq c.args.pipeline.now c.index-pipelines-i.result ≡ false = cc in
    other_place c.args.pipeline.now c.args.pipelines.now c.loop-i.i c.index-pipelines-i.result c.loop-i-test.true
    c.index-pipelines-i.is c.loop-i.invariant no
