use Rattle.std.proofs.Common.{◌≡◌, ℕ, true, nat_eq, arith}
use Rattle.std.proofs.lemmas.Bool.Decides.{nat_tests}
use Rattle.actx_value.specs.Texts.{least_number}
use Rattle.actx_objects.proofs.laws.names_are_equal_where_texts_are.Goals as goal

tested : (m n : ℕ) → nat_eq m n ≡ true → m ≡ n
tested m n h = grind (arith, nat_tests)

tests : (m n : ℕ) → m ≡ n → nat_eq m n ≡ true
tests m n h = grind (arith, nat_tests)

pub returns : goal.returns
returns c = λ texts one.
    let tells = c.equal_texts_share_their_least_number.ensures texts one in
    record {
      names = λ a b. (λ h. (tells.same a.0 b.0).0 (tested (least_number texts a.0) (least_number texts b.0) h), λ e. tests (least_number texts a.0) (least_number texts b.0) ((tells.same a.0 b.0).1 e));
      entries = λ a b. (λ h. (tells.same a.0 b.0).0 (tested (least_number texts a.0) (least_number texts b.0) h), λ e. tests (least_number texts a.0) (least_number texts b.0) ((tells.same a.0 b.0).1 e));
    }
