-- `types::kind_of` meets its contract: each arm is a line of `firsts`.
use borrow.Author.Tests.{lt-ltb, le-ltb, ne_eqb}
use Rattle.items.specs.ReadType.{kind_in, kind_of}
use Rattle.items.proofs.kind_of.Goals as goal

pub returns-then-first-lt128 : goal.returns-then-first-lt128
unfolding kind_of
returns-then-first-lt128 c = simp (le-ltb _ _ c.if-first-ge115.true, lt-ltb _ _ c.if-first-lt128.true)

pub returns-then-first-ge115 : goal.returns-then-first-ge115
unfolding kind_of
returns-then-first-ge115 c = simp (le-ltb _ _ c.if-first-ge115.true, le-ltb _ _ c.if-first-lt128.false)

pub returns-in-100 : goal.returns-in-100
unfolding kind_in kind_of
returns-in-100 c = rw c.in-100.is

pub returns-in-114 : goal.returns-in-114
unfolding kind_in kind_of
returns-in-114 c = rw c.in-114.is

pub returns-in-113 : goal.returns-in-113
unfolding kind_in kind_of
returns-in-113 c = rw c.in-113.is

pub returns-in-112 : goal.returns-in-112
unfolding kind_in kind_of
returns-in-112 c = rw c.in-112.is

pub returns-in-99 : goal.returns-in-99
unfolding kind_in kind_of
returns-in-99 c = rw c.in-99.is

pub returns-in-103 : goal.returns-in-103
unfolding kind_in kind_of
returns-in-103 c = rw c.in-103.is

pub returns-in-111 : goal.returns-in-111
unfolding kind_in kind_of
returns-in-111 c = rw c.in-111.is

pub returns-in-110 : goal.returns-in-110
unfolding kind_in kind_of
returns-in-110 c = rw c.in-110.is

pub returns-in-109 : goal.returns-in-109
unfolding kind_in kind_of
returns-in-109 c = rw c.in-109.is

pub returns-in-107 : goal.returns-in-107
unfolding kind_in kind_of
returns-in-107 c = rw c.in-107.is

pub returns-in-106 : goal.returns-in-106
unfolding kind_in kind_of
returns-in-106 c = rw c.in-106.is

pub returns-in-105 : goal.returns-in-105
unfolding kind_in kind_of
returns-in-105 c = rw c.in-105.is

pub returns-in-104 : goal.returns-in-104
unfolding kind_in kind_of
returns-in-104 c = rw c.in-104.is

pub returns-in-101 : goal.returns-in-101
unfolding kind_in kind_of
returns-in-101 c = rw c.in-101.is

pub returns-in-102 : goal.returns-in-102
unfolding kind_in kind_of
returns-in-102 c = rw c.in-102.is

pub returns-in-64 : goal.returns-in-64
unfolding kind_in kind_of
returns-in-64 c = rw c.in-64.is

pub returns-in-67 : goal.returns-in-67
unfolding kind_in kind_of
returns-in-67 c = rw c.in-67.is

pub returns-in-63 : goal.returns-in-63
unfolding kind_in kind_of
returns-in-63 c = rw c.in-63.is

pub returns-in_default : goal.returns-in_default
unfolding kind_in kind_of
returns-in_default c =
    simp (
      lt-ltb _ _ c.if-first-ge115.false,
      ne_eqb _ _ c.in_default.in_default-own.rest.1,
      ne_eqb _ _ c.in_default.in_default-own.rest.0.1,
      ne_eqb _ _ c.in_default.in_default-own.rest.0.0.1,
      ne_eqb _ _ c.in_default.in_default-own.rest.0.0.0.1,
      ne_eqb _ _ c.in_default.in_default-own.rest.0.0.0.0.1,
      ne_eqb _ _ c.in_default.in_default-own.rest.0.0.0.0.0.1,
      ne_eqb _ _ c.in_default.in_default-own.rest.0.0.0.0.0.0.1,
      ne_eqb _ _ c.in_default.in_default-own.rest.0.0.0.0.0.0.0.1,
      ne_eqb _ _ c.in_default.in_default-own.rest.0.0.0.0.0.0.0.0.1,
      ne_eqb _ _ c.in_default.in_default-own.rest.0.0.0.0.0.0.0.0.0.1,
      ne_eqb _ _ c.in_default.in_default-own.rest.0.0.0.0.0.0.0.0.0.0.1,
      ne_eqb _ _ c.in_default.in_default-own.rest.0.0.0.0.0.0.0.0.0.0.0.1,
      ne_eqb _ _ c.in_default.in_default-own.rest.0.0.0.0.0.0.0.0.0.0.0.0.1,
      ne_eqb _ _ c.in_default.in_default-own.rest.0.0.0.0.0.0.0.0.0.0.0.0.0.1,
      ne_eqb _ _ c.in_default.in_default-own.rest.0.0.0.0.0.0.0.0.0.0.0.0.0.0.1,
      ne_eqb _ _ c.in_default.in_default-own.rest.0.0.0.0.0.0.0.0.0.0.0.0.0.0.0.1,
      ne_eqb _ _ c.in_default.in_default-own.rest.0.0.0.0.0.0.0.0.0.0.0.0.0.0.0.0.1,
      ne_eqb _ _ c.in_default.in_default-own.rest.0.0.0.0.0.0.0.0.0.0.0.0.0.0.0.0.0.1,
    )
