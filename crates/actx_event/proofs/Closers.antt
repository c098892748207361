-- A list of events nests exactly where further events close it.
use Rattle.std.proofs.Common.{◌≡◌, Bool, true, false, ◌&&◌, List, [], ◌∷◌, ◌++◌, Some, None, if◌then◌else◌, refl, sym, ap, ◌∙◌, subst, eq-eqb}
use Rattle.std.proofs.lemmas.List.{append_assoc}
use Rattle.std.specs.Prelude.{is_some, ◌↔◌}
use Rattle.actx_event.specs.declared.event.Event.{Event}
use Rattle.actx_event.specs.declared.event.Event.TheVariants.{After, Leave, Unbind}
use Rattle.actx_event.specs.declared.bracket.Bracket.{Bracket}
use Rattle.actx_event.specs.declared.bracket.Bracket.TheVariants.{Running, Entered, Bound}
use Rattle.actx_event.specs.declared.bracket.Open.{Open}
use Rattle.actx_event.specs.Event.{closed_bracket}
use Rattle.actx_event.specs.Front.{Front}
use Rattle.actx_event.specs.Brackets.{same_bracket, with_closed, opened, has_opener, nests, IsClosed, IsPrefixOfClosed}

-- the event that closes a bracket
closer : Bracket → Event
closer (Running id) = After id
closer (Entered snap) = Leave snap
closer (Bound id) = Unbind id

same_self : (b : Bracket) → same_bracket b b ≡ true
same_self (Running id) = eq-eqb id.0 id.0 refl
same_self (Entered snap) = eq-eqb snap.0 snap.0 refl
same_self (Bound id) = eq-eqb id.0 id.0 refl

closes_newest : (o : Open Front) (os : List (Open Front)) → (with_closed (Some o.bracket) (o ∷ os) ≡ os) × (has_opener (Some o.bracket) (o ∷ os) ≡ true)
closes_newest o os =
    (ap (λ (t : Bool). if t then os else (o ∷ os)) (same_self o.bracket), ap (λ (t : Bool). is_some (if t then Some o.before else None)) (same_self o.bracket))

close_one : (b : Bracket) (es : Front) → (opened (closer b ∷ es) ≡ with_closed (Some b) (opened es)) × (nests (closer b ∷ es) ≡ (has_opener (Some b) (opened es) && nests es))
unfolding closer
close_one (Running id) es = (refl, refl)
close_one (Entered snap) es = (refl, refl)
close_one (Bound id) es = (refl, refl)

prefix_of_closed : (os : List (Open Front)) (es : Front) → opened es ≡ os → nests es ≡ true → IsPrefixOfClosed es
prefix_of_closed [] es is n = ([], record { nesting = n; none_open = is })
prefix_of_closed (o ∷ os) es is n =
    let e = closer o.bracket in
    let one = close_one o.bracket es in
    let newest = closes_newest o os in
    let left : opened (e ∷ es) ≡ os = one.0 ∙ (ap (with_closed (Some o.bracket)) is ∙ newest.0) in
    let well : nests (e ∷ es) ≡ true = one.1 ∙ (ap (λ q. has_opener (Some o.bracket) q && nests es) is ∙ (ap (λ t. t && nests es) newest.1 ∙ n)) in
    let r = prefix_of_closed os (e ∷ es) left well in
    (r.0 ++ e ∷ [], subst IsClosed (sym (append_assoc r.0 (e ∷ []) es)) r.1)

and_right : (a b : Bool) → (a && b) ≡ true → b ≡ true
and_right true b h = h
and_right false b h = absurd cc

nests_older : (later es : Front) → nests (later ++ es) ≡ true → nests es ≡ true
nests_older [] es h = h
nests_older (e ∷ later) es h = nests_older later es (and_right (has_opener (closed_bracket e) (opened (later ++ es))) _ h)

pub nests_where : (es : Front) → (nests es ≡ true) ↔ IsPrefixOfClosed es
nests_where es = (prefix_of_closed (opened es) es refl, λ r. nests_older r.0 es r.1.nesting)
