-- The numbers of the kinds of frames.
use Rattle.std.specs.Prelude.{◌≡◌, ℕ, Result, MatchResult}
use Rattle.track.specs.declared.refusal.Refusal.{Refusal}
use Rattle.track.specs.declared.refusal.Refusal.TheVariants.{UnknownFrame}
use Rattle.frames.specs.declared.kind.Kind.{Kind}
use Rattle.frames.specs.declared.kind.Kind.TheVariants.{AddSections, Link, Foul, Finish, Enter, Withdraw, Plan}
use Rattle.frames.specs.Lines.{size_of}

abbrev pub number_of_kind : Kind → ℕ
number_of_kind AddSections = 1
number_of_kind Link = 2
number_of_kind Foul = 3
number_of_kind Finish = 4
number_of_kind Enter = 5
number_of_kind Withdraw = 6
number_of_kind Plan = 7

-- the kind with this number, or 28 where no frame has it
abbrev pub Decodes : ℕ → Result Kind Refusal → Type 0
Decodes n r = MatchResult r (λ kind. number_of_kind kind ≡ n) (λ e. (e ≡ UnknownFrame) × (size_of n ≡ 0))
