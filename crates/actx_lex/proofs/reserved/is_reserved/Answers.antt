use Rattle.std.proofs.Common.{◌∙◌, ap, sym, arith}
use Rattle.actx_lex.specs.Words.{is_reserved}
use Rattle.actx_lex.proofs.Basics.{empty}
use Rattle.actx_lex.proofs.ReservedWords.{reserved-nil, reserved-a, reserved-b, reserved-c, reserved-d, reserved-e, reserved-f, reserved-i, reserved-l, reserved-n, reserved-p, reserved-r, reserved-s, reserved-t, reserved-v, reserved-w, reserved-y, reserved-other}
use Rattle.actx_lex.proofs.reserved.is_reserved.Goals as goal

pub returns-in-empty : goal.returns-in-empty
returns-in-empty c = let e = empty c.args.units.now (let l = c.in-empty.len_below in omega arith) in sym (ap is_reserved e ∙ reserved-nil)

pub returns-in-97 : goal.returns-in-97
returns-in-97 c = let e = reserved-a c.args.units.now c.in-len1-up.len_at_least c.in-97.is in cc

pub returns-in-98 : goal.returns-in-98
returns-in-98 c = let e = reserved-b c.args.units.now c.in-len1-up.len_at_least c.in-98.is in cc

pub returns-in-99 : goal.returns-in-99
returns-in-99 c = let e = reserved-c c.args.units.now c.in-len1-up.len_at_least c.in-99.is in cc

pub returns-in-100 : goal.returns-in-100
returns-in-100 c = let e = reserved-d c.args.units.now c.in-len1-up.len_at_least c.in-100.is in cc

pub returns-in-101 : goal.returns-in-101
returns-in-101 c = let e = reserved-e c.args.units.now c.in-len1-up.len_at_least c.in-101.is in cc

pub returns-in-102 : goal.returns-in-102
returns-in-102 c = let e = reserved-f c.args.units.now c.in-len1-up.len_at_least c.in-102.is in cc

pub returns-in-105 : goal.returns-in-105
returns-in-105 c = let e = reserved-i c.args.units.now c.in-len1-up.len_at_least c.in-105.is in cc

pub returns-in-108 : goal.returns-in-108
returns-in-108 c = let e = reserved-l c.args.units.now c.in-len1-up.len_at_least c.in-108.is in cc

pub returns-in-110 : goal.returns-in-110
returns-in-110 c = let e = reserved-n c.args.units.now c.in-len1-up.len_at_least c.in-110.is in cc

pub returns-in-112 : goal.returns-in-112
returns-in-112 c = let e = reserved-p c.args.units.now c.in-len1-up.len_at_least c.in-112.is in cc

pub returns-in-114 : goal.returns-in-114
returns-in-114 c = let e = reserved-r c.args.units.now c.in-len1-up.len_at_least c.in-114.is in cc

pub returns-in-115 : goal.returns-in-115
returns-in-115 c = let e = reserved-s c.args.units.now c.in-len1-up.len_at_least c.in-115.is in cc

pub returns-in-116 : goal.returns-in-116
returns-in-116 c = let e = reserved-t c.args.units.now c.in-len1-up.len_at_least c.in-116.is in cc

pub returns-in-118 : goal.returns-in-118
returns-in-118 c = let e = reserved-v c.args.units.now c.in-len1-up.len_at_least c.in-118.is in cc

pub returns-in-119 : goal.returns-in-119
returns-in-119 c = let e = reserved-w c.args.units.now c.in-len1-up.len_at_least c.in-119.is in cc

pub returns-in-121 : goal.returns-in-121
returns-in-121 c = let e = reserved-y c.args.units.now c.in-len1-up.len_at_least c.in-121.is in cc

pub returns-in_default : goal.returns-in_default
returns-in_default c = sym (reserved-other c.args.units.now c.in-len1-up.len_at_least (omega arith) (omega arith) (omega arith) (omega arith) (omega arith) (omega arith) (omega arith) (omega arith) (omega arith) (omega arith) (omega arith) (omega arith) (omega arith) (omega arith) (omega arith) (omega arith))
