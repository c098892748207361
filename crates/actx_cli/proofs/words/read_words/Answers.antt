use Rattle.std.proofs.Common.{◌≡◌, ap, subst, ◌∙◌, sym, refl, string_bytes}
use Rattle.actx_cli.specs.Words.{IsName, texts, run_word}
use Rattle.actx_cli.proofs.WordLists.{two_words, same_bytes}
use Rattle.actx_cli.proofs.words.read_words.Goals as goal

pub returns-then-is_name-clause-command : goal.returns-then-is_name-clause-command
returns-then-is_name-clause-command c =
    let run = same_bytes c.as_str.result.now run_word c.if-eq.ensures in
    let words = two_words c.args.words.now c.first-item.result c.file-item.result c.in-len2.len_at_least c.in-len2.len_below c.first-item.is c.file-item.is in
    let one : string_bytes c.first-item.result ≡ run_word = sym c.as_str.ensures.value ∙ run in
    let two : string_bytes c.file-item.result ≡ c.as_str-then-is_name.result.now = sym c.as_str-then-is_name.ensures.value in
    let same : c.as_str-then-eq.result.now ≡ c.as_str-then-is_name.result.now = c.as_str-then-eq.ensures.value ∙ two in
    (subst IsName same (c.if-is_name.ensures.yes refl), ap texts words ∙ cc (one, two), refl)
