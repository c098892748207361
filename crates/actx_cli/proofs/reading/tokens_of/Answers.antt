use Rattle.std.proofs.Common.{◌≡◌, Err, ap}
use Rattle.actx_lex.specs.declared.token.LexError.TheVariants.{Memory}
use Rattle.actx_cli.proofs.reading.tokens_of.Goals as goal

pub returns-in-Err-BadToken : goal.returns-in-Err-BadToken
returns-in-Err-BadToken c =
    let e = c.in-Err-BadToken in (
      c.in-Ok.text,
      c.in-Ok.ensures.text,
      record {
        none = λ ts h. (let memory : e.field-0 ≡ Memory = e.ensures.given ts h in absurd (cc (memory, e.field-0-is)));
        reached = e.ensures.reached e.at (ap Err e.field-0-is);
        no_further = λ place h. e.ensures.no_further e.at place (ap Err e.field-0-is) h;
      },
    )
