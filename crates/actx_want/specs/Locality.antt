-- Meanings that look at what comes next only on the rest of the answers: two ways to go on that agree on all lists of at
-- most n answers lead to the same on them.
use Rattle.std.specs.Prelude.{ℕ, ◌≤◌, ◌≡◌, List, length}
use Rattle.actx_value.specs.declared.value.Value.{Value}
use Rattle.actx_value.specs.declared.value.Answer.{Answer}
use Rattle.actx_want.specs.declared.completion.Completion.{Completion}
use Rattle.actx_want.specs.Run.{Run, Next', Place, Meaning}
use Rattle.actx_want.specs.Names.{Access, Changing}
use Rattle.actx_want.specs.Lists.{WithList, Lister, Listed, Keyed}
use Rattle.actx_want.specs.Members.{WithReceiver, Suffixed}
use Rattle.actx_want.specs.Functions.{Binding}
use Rattle.actx_want.specs.Patterns.{PropertyBinding}

-- the same on all lists of at most n answers
abbrev pub Same : ℕ → Run → Run → Type 0
Same n r s = (more : List Answer) → length more ≤ n → r more ≡ s more

-- the same there, whatever the completion
abbrev pub Agree : ℕ → Next' → Next' → Type 0
Agree n k l = (c : Completion) → Same n (k c) (l c)

-- a form
abbrev pub IsLocal : Meaning → Type 0
IsLocal m = (n : ℕ) (p : Place) (k l : Next') → Agree n k l → Same n (m p k) (m p l)

-- what is done with a value: a binding, an entry of an object, a right operand, a piece of a template
abbrev pub IsLocalAt : Binding → Type 0
IsLocalAt b = (n : ℕ) (p : Place) (v : Value) (k l : Next') → Agree n k l → Same n (b p v k) (b p v l)

pub record IsLocalAccess (a : Access) : Type 0 where
  pub read : (n : ℕ) (k l : Next') → Agree n k l → Same n (a.read k) (a.read l)
  pub write : (n : ℕ) (v : Value) (k l : Next') → Agree n k l → Same n (a.write v k) (a.write v l)

-- a change
abbrev pub IsLocalChange : Changing → Type 0
IsLocalChange c = (a : Access) → IsLocalAccess a → IsLocal (c a)

-- a key
abbrev pub IsLocalKey : Keyed → Type 0
IsLocalKey key = (n : ℕ) (p : Place) (f g : Value → Run) (k l : Next') → ((v : Value) → Same n (f v) (g v)) → Agree n k l → Same n (key p f k) (key p g l)

abbrev pub IsLocalLister : Lister → Type 0
IsLocalLister m = (n : ℕ) (done : List Value) (f g : WithList) (k l : Next') → ((d : List Value) → Same n (f d) (g d)) → Agree n k l → Same n (m done f k) (m done g l)

-- a member of a list
abbrev pub IsLocalMember : Listed → Type 0
IsLocalMember m = (p : Place) (rest : Lister) → IsLocalLister rest → IsLocalLister (m p rest)

-- a suffix
abbrev pub IsLocalSuffix : Suffixed → Type 0
IsLocalSuffix s = (n : ℕ) (p : Place) (f g : WithReceiver) (x y : Run) (k l : Next') → ((r v : Value) → Same n (f r v) (g r v)) → Same n x y → Agree n k l → (r v : Value) → Same n (s p f x k r v) (s p g y l r v)

-- a property of an object pattern
abbrev pub IsLocalProperty : PropertyBinding → Type 0
IsLocalProperty q = IsLocalAt q.element
