use Rattle.std.proofs.Common.{sym, subst}
use Rattle.gob_segments.specs.Applied.{PipelinesAfter, later_text}
use Rattle.gob_state.specs.Reads.{ReadsSpelling}
use Rattle.gob_state.specs.Versions.{version_of}
use Rattle.gob_state.specs.declared.version.Version.{Version}
use Rattle.gob_text.specs.Words.{GoesOnAtAll}
use Rattle.gob_segments.proofs.pipelines.take_later.Goals as goal

pub returns-in-First : goal.returns-in-First
returns-in-First c = subst (λ (v : Version). ReadsSpelling (later_text (version_of v) c.args.known)
    (PipelinesAfter (version_of v) c.args.known) GoesOnAtAll c.args.text.now c.args.text.now c.one_alone.result)
    (sym c.in-First.is) (c.one_alone.ensures c.args.text.now)
