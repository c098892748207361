-- Keys, members, lists and calls are local.
use Rattle.std.proofs.Common.{ℕ, Bool, List, [], ◌∷◌, ◌++◌, arith}
use Rattle.actx_text.specs.declared.body_id.BodyId.{BodyId}
use Rattle.actx_value.specs.declared.value.Value.{Value}
use Rattle.actx_value.specs.declared.value.Value.TheVariants as values
use Rattle.actx_value.specs.declared.request.Request.TheVariants as requests
use Rattle.actx_want.specs.declared.completion.Completion.TheVariants.{Normal}
use Rattle.actx_want.specs.Run.{Next', Place, Meaning, is_mark}
use Rattle.actx_want.specs.Names.{Changing}
use Rattle.actx_want.specs.Lists.{WithList, Listed, Keyed, Filling, taking, collected, single, spread, listed, array, pair, method, copied, filled, object}
use Rattle.actx_want.specs.Members.{Suffixed, plain, computed, member_of, change_member, stops, member, suffixed, giving, suffixes, deleting, delete, super_member}
use Rattle.actx_want.specs.Calls.{call, new, super_call}
use Rattle.actx_want.specs.Locality.{Same, Agree, IsLocal, IsLocalAt, IsLocalAccess, IsLocalChange, IsLocalKey, IsLocalLister, IsLocalMember, IsLocalSuffix}
use Rattle.actx_want.proofs.Local.{asks_same, value_agree, keeping_agree, before_agree, if_same, same_below, agree_below, Alls, IsLocalTurn, loop_same}

-- ---- lists

pub taking_local : (walk : Value) (m : ℕ) {f g : WithList} {k l : Next'} → ((d : List Value) → Same m (f d) (g d)) → Agree m k l → IsLocalTurn m (taking walk f k) (taking walk g l)
taking_local walk m fg h n ln again more am done =
    value_agree (λ _. asks_same (requests.Next walk) [] n (value_agree (λ v. if_same (is_mark v) (same_below ln (fg done)) (am (done ++ v ∷ []))) (agree_below ln h))) (agree_below ln h)

pub collected_same : (walk : Value) (n : ℕ) {f g : WithList} {k l : Next'} → ((d : List Value) → Same n (f d) (g d)) → Agree n k l → (done : List Value) → Same n (collected walk f k done) (collected walk g l done)
collected_same walk n {f = f} {g = g} {k = k} {l = l} fg h done = loop_same (taking walk f k) (taking walk g l) n (taking_local walk n fg h) n (omega arith) done

pub one_local : (e : Meaning) → IsLocal e → IsLocalMember (single e)
one_local e le p rest lr n done f g k l fg h = le n p _ _ (value_agree (λ v. lr n (done ++ v ∷ []) f g k l fg h) h)

pub spread_local : (e : Meaning) → IsLocal e → IsLocalMember (spread e)
spread_local e le p rest lr n done f g k l fg h =
    le n p _ _ (value_agree (λ v. asks_same (requests.Open v) [] n (value_agree (λ walk. collected_same walk n (λ d. lr n d f g k l fg h) h done) h)) h)

pub listed_local : (ms : List Listed) → Alls IsLocalMember ms → (p : Place) → IsLocalLister (listed ms p)
unfolding listed
listed_local [] all p n done f g k l fg h = fg done
listed_local (m ∷ ms) all p n done f g k l fg h = all.0 p (listed ms p) (listed_local ms all.1 p) n done f g k l fg h

pub array_local : (ms : List Listed) → Alls IsLocalMember ms → IsLocal (array ms)
array_local ms all n p k l h = listed_local ms all p n [] _ _ k l (λ d. asks_same requests.Array d n h) h

-- ---- objects

pub pair_local : (key : Keyed) (e : Meaning) → IsLocalKey key → IsLocal e → IsLocalAt (pair key e)
pair_local key e lk le n p o k l h = lk n p _ _ k l (λ q. le n p _ _ (value_agree (λ v. asks_same (requests.Define o q v) [] n h) h)) h

pub method_local : (key : Keyed) (body : BodyId) → IsLocalKey key → IsLocalAt (method key body)
method_local key body lk n p o k l h = lk n p _ _ k l (λ q. asks_same (requests.Method body p o) [] n (value_agree (λ v. asks_same (requests.Define o q v) [] n h) h)) h

pub copied_local : (e : Meaning) → IsLocal e → IsLocalAt (copied e)
copied_local e le n p o k l h = le n p _ _ (value_agree (λ v. asks_same (requests.Copy o v) [] n h) h)

pub filled_local : (fs : List Filling) → Alls IsLocalAt fs → IsLocalAt (filled fs)
unfolding filled
filled_local [] all n p o k l h = h (Normal o)
filled_local (f ∷ fs) all n p o k l h = all.0 n p o _ _ (before_agree n (filled_local fs all.1 n p o k l h) h)

pub object_local : (fs : List Filling) → Alls IsLocalAt fs → IsLocal (object fs)
object_local fs all n p k l h = asks_same requests.Object [] n (value_agree (λ o. filled_local fs all n p o k l h) h)

-- ---- keys and members

pub plain_local : (v : Value) → IsLocalKey (plain v)
plain_local v n p f g k l fg h = fg v

pub computed_local : (e : Meaning) → IsLocal e → IsLocalKey (computed e)
computed_local e le n p f g k l fg h = le n p _ _ (value_agree (λ v. asks_same (requests.ToKey v) [] n (value_agree fg h)) h)

member_access : (o q : Value) → IsLocalAccess (member_of o q)
member_access o q = record { read = λ n k l h. asks_same (requests.Get o q) [] n h; write = λ n v k l h. asks_same (requests.Set o q v) [] n h }

pub change_member_local : (e : Meaning) (key : Keyed) (c : Changing) → IsLocal e → IsLocalKey key → IsLocalChange c → IsLocal (change_member e key c)
change_member_local e key c le lk lc n p k l h =
    le n p _ _ (value_agree (λ o. lk n p _ _ k l (λ q. lc (member_of o q) (member_access o q) n p k l h) h) h)

-- ---- suffixes

pub member_local : (optional : Bool) (key : Keyed) → IsLocalKey key → IsLocalSuffix (member optional key)
member_local optional key lk n p f g x y k l fg xy h r v =
    if_same (stops optional v) xy (lk n p _ _ k l (λ q. asks_same (requests.Get v q) [] n (value_agree (λ w. fg v w) h)) h)

pub call_local : (optional : Bool) (ms : List Listed) → Alls IsLocalMember ms → IsLocalSuffix (call optional ms)
call_local optional ms all n p f g x y k l fg xy h r v =
    if_same (stops optional v) xy (listed_local ms all p n [] _ _ k l (λ d. asks_same (requests.Call v r) d n (value_agree (λ w. fg values.Undefined w) h)) h)

pub suffixed_local : (ss : List Suffixed) → Alls IsLocalSuffix ss → IsLocalSuffix (suffixed ss)
unfolding suffixed
suffixed_local [] all n p f g x y k l fg xy h r v = fg r v
suffixed_local (s ∷ ss) all n p f g x y k l fg xy h r v = all.0 n p _ _ x y k l (λ q w. suffixed_local ss all.1 n p f g x y k l fg xy h q w) xy h r v

given_local : (ss : List Suffixed) → Alls IsLocalSuffix ss → (n : ℕ) (p : Place) {k l : Next'} → Agree n k l → (r v : Value) → Same n (suffixed ss p (giving k) (k (Normal values.Undefined)) k r v) (suffixed ss p (giving l) (l (Normal values.Undefined)) l r v)
given_local ss all n p {k = k} {l = l} h r v = suffixed_local ss all n p (giving k) (giving l) (k (Normal values.Undefined)) (l (Normal values.Undefined)) k l (λ q w. h (Normal w)) (h (Normal values.Undefined)) h r v

pub suffixes_local : (e : Meaning) (ss : List Suffixed) → IsLocal e → Alls IsLocalSuffix ss → IsLocal (suffixes e ss)
suffixes_local e ss le all n p k l h = le n p _ _ (value_agree (λ v. given_local ss all n p h values.Undefined v) h)

pub super_member_local : (hops : ℕ) (key : Value) (ss : List Suffixed) → Alls IsLocalSuffix ss → IsLocal (super_member hops key ss)
super_member_local hops key ss all n p k l h =
    asks_same (requests.Load p hops 2) [] n
    (value_agree (λ home. asks_same (requests.Load p hops 0) [] n
    (value_agree (λ this. asks_same (requests.SuperGet home key this) [] n (value_agree (λ v. given_local ss all n p h this v) h)) h)) h)

pub delete_local : (e : Meaning) (ss : List Suffixed) (optional : Bool) (key : Keyed) → IsLocal e → Alls IsLocalSuffix ss → IsLocalKey key → IsLocal (delete e ss optional key)
delete_local e ss optional key le all lk n p k l h =
    le n p _ _ (value_agree (λ v. suffixed_local ss all n p (deleting optional key p k) (deleting optional key p l) _ _ k l
    (λ r w. if_same (stops optional w) (h _) (lk n p _ _ k l (λ q. asks_same (requests.Delete w q) [] n h) h)) (h _) h values.Undefined v) h)

-- ---- calls

pub new_local : (e : Meaning) (ms : List Listed) → IsLocal e → Alls IsLocalMember ms → IsLocal (new e ms)
new_local e ms le all n p k l h =
    le n p _ _ (value_agree (λ f. listed_local ms all p n [] _ _ k l (λ d. asks_same (requests.New f) d n h) h) h)

pub super_call_local : (hops : ℕ) (ms : List Listed) → Alls IsLocalMember ms → IsLocal (super_call hops ms)
super_call_local hops ms all n p k l h =
    asks_same (requests.Load p hops 1) [] n
    (value_agree (λ f. listed_local ms all p n [] _ _ k l
    (λ d. asks_same (requests.SuperCall f) d n (value_agree (λ v. asks_same (requests.Init p hops 0 v) [] n (keeping_agree v n h)) h)) h) h)
