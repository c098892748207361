use Rattle.std.proofs.Common.{◌≡◌, ◌-◌, map}
use Rattle.actx_cells.specs.Scopes.{outer_of}
use Rattle.actx_cells.proofs.span.outer.Given as goal

-- the hops that are left lead to the same scope
abbrev pub invariant-loop-hop : goal.invariant-loop-hop
invariant-loop-hop l =
    outer_of (map (λ span. span.parent) l.spans) (l.hops - l.hop) l.scope ≡ outer_of (map (λ span. span.parent) l.spans) l.hops l.fn.s
