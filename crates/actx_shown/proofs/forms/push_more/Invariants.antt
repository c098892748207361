use Rattle.std.proofs.Common.{◌≡◌, ◌++◌, drop}
use Rattle.actx_shown.specs.Forms as forms
use Rattle.actx_shown.proofs.forms.push_more.Given as goal

abbrev pub invariant-loop-v : goal.invariant-loop-v
invariant-loop-v l = l.out.items ++ forms.more_shown l.texts.texts l.objects (drop l.v-index l.args) ≡ l.fn.out.items ++ forms.more_shown l.texts.texts l.objects l.fn.args
