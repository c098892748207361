use Rattle.std.proofs.Common.{◌≡◌, ap, subst, ◌∙◌, inl, Err}
use Rattle.std.specs.Str.{IsValidUpTo, valid_up_to}
use Rattle.actx_text.specs.declared.error.TextError.TheVariants.{BadUtf8}
use Rattle.actx_text.proofs.Utf8Lemmas.{std_from, IsUtf8_from, IsFirstIllFormed_from, longest, not_utf8, same_place}
use Rattle.actx_text.proofs.TextLemmas.{spelled_by, one_text}
use Rattle.actx_text.proofs.decode.from_utf8.Goals as goal

-- the text

pub returns-in_ok-units_of-in-Ok-clause-text : goal.returns-in_ok-units_of-in-Ok-clause-text
returns-in_ok-units_of-in-Ok-clause-text c =
    spelled_by _ _ _ c.in-Ok.ensures.cases.0 c.in-Ok.ensures.cases.1 c.in_ok-units_of-in-Ok.ensures

pub returns-in_ok-units_of-in-Ok-clause-given : goal.returns-in_ok-units_of-in-Ok-clause-given
returns-in_ok-units_of-in-Ok-clause-given c scalars is =
    let spelled = spelled_by _ _ _ c.in-Ok.ensures.cases.0 c.in-Ok.ensures.cases.1 c.in_ok-units_of-in-Ok.ensures in
    one_text c.args.bytes.now _ scalars spelled is

pub returns-in_ok-units_of-in-Ok-clause-refuses : goal.returns-in_ok-units_of-in-Ok-clause-refuses
returns-in_ok-units_of-in-Ok-clause-refuses c at first =
    absurd (not_utf8 c.args.bytes.now at first (IsUtf8_from c.args.bytes.now c.in-Ok.ensures.cases.1))

-- the refusal

pub returns-in-Err-clause-given : goal.returns-in-Err-clause-given
returns-in-Err-clause-given c scalars is = absurd (c.in-Err.ensures.cases.0 (std_from c.args.bytes.now (scalars, is)))

pub returns-in-Err-clause-refused : goal.returns-in-Err-clause-refused
returns-in-Err-clause-refused c at e =
    let same : valid_up_to c.in-Err.fault ≡ at = cc in
    IsFirstIllFormed_from c.args.bytes.now at (subst (IsValidUpTo c.args.bytes.now) same c.in-Err.ensures.cases.1)

pub returns-in-Err-clause-longest : goal.returns-in-Err-clause-longest
returns-in-Err-clause-longest c at n e front =
    let same : valid_up_to c.in-Err.fault ≡ at = cc in
    let first = IsFirstIllFormed_from c.args.bytes.now at (subst (IsValidUpTo c.args.bytes.now) same c.in-Err.ensures.cases.1) in
    longest c.args.bytes.now at n first front

pub returns-in-Err-clause-refuses : goal.returns-in-Err-clause-refuses
returns-in-Err-clause-refuses c at first =
    let here = IsFirstIllFormed_from c.args.bytes.now (valid_up_to c.in-Err.fault) c.in-Err.ensures.cases.1 in
    inl (ap (λ n. Err (BadUtf8 n)) (c.valid_up_to.ensures ∙ same_place c.args.bytes.now _ at here first))
