-- What each plain request gives and leaves. `list` is the list of the request, and `arguments` are those of the call whose
-- body asks.
use Rattle.std.specs.Prelude.{true, false, List}
use Rattle.actx_value.specs.declared.request.Request.{Request}
use Rattle.actx_value.specs.declared.request.Request.TheVariants as requests
use Rattle.actx_value.specs.declared.value.Value.{Value}
use Rattle.actx_value.specs.declared.value.Value.TheVariants.{Undefined}
use Rattle.actx_request.specs.declared.home.Home.{Home}
use Rattle.actx_request.specs.Outcomes.{Stores, Outcome, gives}
use Rattle.actx_request.specs.Scopes.{scope_in, fork_at, init_at, load_at, store_at}
use Rattle.actx_request.specs.Operators.{unary_on, binary_on, text_of, key_of}
use Rattle.actx_request.specs.Arguments.{argument, arguments_from}
use Rattle.actx_request.specs.Members.{get_of, super_get}
use Rattle.actx_request.specs.Writes.{put_of, delete_of}
use Rattle.actx_request.specs.Lists.{object_new, array_of}
use Rattle.actx_request.specs.Copies.{copy_of, rest_of}

abbrev pub outcome_of : Request → List Value → List Value → Home → Stores → Outcome
outcome_of requests.Tick list arguments home s = gives Undefined s
outcome_of (requests.Scope parent n) list arguments home s = scope_in parent n s
outcome_of (requests.Fork scope) list arguments home s = fork_at scope s
outcome_of (requests.Init scope hops slot v) list arguments home s = init_at scope hops slot v s
outcome_of (requests.Load scope hops slot) list arguments home s = load_at scope hops slot s
outcome_of (requests.Store scope hops slot v) list arguments home s = store_at scope hops slot v s
outcome_of (requests.Unary op v) list arguments home s = unary_on op v s
outcome_of (requests.Binary op a b) list arguments home s = binary_on op a b s
outcome_of (requests.ToText v) list arguments home s = text_of v s
outcome_of (requests.ToKey v) list arguments home s = key_of v s
outcome_of requests.Object list arguments home s = object_new home s
outcome_of requests.Array list arguments home s = array_of home list s
outcome_of (requests.Get o k) list arguments home s = get_of home o k s
outcome_of (requests.Set o k v) list arguments home s = put_of false o k v s
outcome_of (requests.Delete o k) list arguments home s = delete_of home o k s
outcome_of (requests.Define o k v) list arguments home s = put_of false o k v s
outcome_of (requests.DefineMethod o k v) list arguments home s = put_of true o k v s
outcome_of (requests.Copy o from) list arguments home s = copy_of o from s
outcome_of (requests.Rest from) list arguments home s = rest_of home from list s
outcome_of (requests.SuperGet home_object k this) list arguments home s = super_get home_object k s
outcome_of (requests.Arg i) list arguments home s = argument arguments i s
outcome_of (requests.ArgsFrom i) list arguments home s = arguments_from home arguments i s
outcome_of r list arguments home s = gives Undefined s
