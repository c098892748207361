-- What a frame wants.
use Rattle.std.specs.Prelude.{List}
use Rattle.actx_value.specs.declared.value.Value.{Value}
use Rattle.actx_want.specs.Run.{Wants, Asks, Returns, Throws, Run}
use Rattle.actx_frame.specs.declared.frame.Frame.{Frame}
use Rattle.actx_frame.specs.declared.machine.Want.{Want}
use Rattle.actx_frame.specs.declared.machine.Want.TheVariants.{Ask, Return, Throw}
use Rattle.actx_frame_items.specs.Stack.{kept}
use Rattle.actx_frame.specs.Machine.{rest_of}

-- the list of the request that is wanted
abbrev pub args_of : Frame → List Value
args_of f = f.list.items

-- a request with its list, or how a body ended
abbrev pub wanted : Want → List Value → Wants
wanted (Ask q) list = Asks q list
wanted (Return v) list = Returns v
wanted (Throw v) list = Throws v

-- what a frame wants after each list of further answers
abbrev pub rest : Frame → Run
rest f = rest_of f.want f.list.items (kept f.stack.items)
