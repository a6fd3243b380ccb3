-- A source from which nothing is pulled.
use Rattle.std.proofs.Common.{◌≡◌, [], ap, sym, append-nil}
use Rattle.gob_device.specs.Supply.{Supply, with_pulls}

pub with_none : (s : Supply) → s ≡ with_pulls [] s
with_none s = ap (λ ps. record s { pulls = ps }) (sym (append-nil s.pulls))
