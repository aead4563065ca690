-- The table of worked examples.
use Rattle.std.specs.Prelude.{ℕ, List, [], ◌∷◌}
use Rattle.std.specs.List.{All}
use Rattle.track.specs.Model.{Model, link_of, foul_of}
use Rattle.scales.specs.Pairs.{pair}
use Rattle.roster.specs.declared.train.Train.{Train}
use Rattle.examples.specs.Examples.{Rule, follow, clear, Scale, Cost, by_steps, by_steps_then_points, Expected, no_sheet, sheet, Example}
use Rattle.examples.specs.Yields.{Yields}

abbrev train : (number start goal : ℕ) → Train
train v s g = record { number = v; start = s; goal = g }

-- a ring of the sections 1, 2, 3 and 4, with section 0 at section 1
abbrev loop : Model
loop = record { sections = 5; links = link_of 0 1 0 ∷ link_of 1 2 2 ∷ link_of 2 3 1 ∷ link_of 1 4 1 ∷ link_of 3 4 1 ∷ []; fouls = [] }

-- two links that cross
abbrev crossing : Model
crossing = record { sections = 4; links = link_of 0 3 0 ∷ link_of 1 2 0 ∷ []; fouls = foul_of 0 3 1 2 ∷ [] }

abbrev triangle : Model
triangle = record { sections = 3; links = link_of 0 1 0 ∷ link_of 1 2 0 ∷ link_of 0 2 0 ∷ []; fouls = [] }

-- a line of the sections 0, 1 and 2, with section 3 at section 1
abbrev siding : Model
siding = record { sections = 4; links = link_of 0 1 0 ∷ link_of 1 2 0 ∷ link_of 1 3 0 ∷ []; fouls = [] }

abbrev single : List Train
single = train 7 0 3 ∷ []

abbrev opposing : List Train
opposing = train 7 0 3 ∷ train 9 3 0 ∷ []

abbrev distant : List Train
distant = train 7 0 2 ∷ train 9 3 4 ∷ []

abbrev across : List Train
across = train 1 0 3 ∷ train 2 1 2 ∷ []

abbrev round : List Train
round = train 1 0 1 ∷ train 2 1 2 ∷ train 3 2 0 ∷ []

abbrev overtaking : List Train
overtaking = train 4 1 1 ∷ train 5 0 2 ∷ []

-- the drawing, the closed sections, the trains, the number of steps, the rule, the scale, and what is expected
abbrev example : Model → List ℕ → List Train → ℕ → Rule → (s : Scale) → Expected (Cost s) → Example
example m closed trains steps rule s expected =
    record { drawing = m; closed = closed; trains = trains; steps = steps; rule = rule; scale = s; expected = expected }

abbrev pub table : List Example
table =
    -- 1. two ways cost the same: the sheet by the lower section comes first
    example loop [] single 4 follow by_steps (sheet ((0 ∷ 1 ∷ 2 ∷ 3 ∷ 3 ∷ []) ∷ []) 3 1)
    -- 2. where points count too, the way over fewer points is the cheaper
    ∷ example loop [] single 4 follow by_steps_then_points (sheet ((0 ∷ 1 ∷ 4 ∷ 3 ∷ 3 ∷ []) ∷ []) (pair 3 2) 1)
    -- 3. each train alone would go by section 2, where they would exchange sections; so they are joined
    ∷ example loop [] opposing 4 follow by_steps (sheet ((0 ∷ 1 ∷ 4 ∷ 3 ∷ 3 ∷ []) ∷ (3 ∷ 2 ∷ 1 ∷ 0 ∷ 0 ∷ []) ∷ []) 6 1)
    -- 4. under clear section the second train waits until the first has left section 1
    ∷ example loop [] opposing 4 clear by_steps (sheet ((0 ∷ 1 ∷ 4 ∷ 3 ∷ 3 ∷ []) ∷ (3 ∷ 2 ∷ 2 ∷ 1 ∷ 0 ∷ []) ∷ []) 7 1)
    -- 5. for which three steps are too few
    ∷ example loop [] opposing 3 clear by_steps no_sheet
    -- 6. trains that do not conflict stay groups of their own
    ∷ example loop [] distant 2 follow by_steps (sheet ((0 ∷ 1 ∷ 2 ∷ []) ∷ (3 ∷ 4 ∷ 4 ∷ []) ∷ []) 3 2)
    -- 7. the first example with section 2 closed
    ∷ example loop (2 ∷ []) single 4 follow by_steps (sheet ((0 ∷ 1 ∷ 4 ∷ 3 ∷ 3 ∷ []) ∷ []) 3 1)
    -- 8. links that foul are run over one after the other, and the sheet in which the first train waits comes first;
    -- in one step there is none
    ∷ example crossing [] across 2 follow by_steps (sheet ((0 ∷ 0 ∷ 3 ∷ []) ∷ (1 ∷ 2 ∷ 2 ∷ []) ∷ []) 3 1)
    ∷ example crossing [] across 1 follow by_steps no_sheet
    -- 9. under following, three trains run round together, each into the section that another one leaves
    ∷ example triangle [] round 1 follow by_steps (sheet ((0 ∷ 1 ∷ []) ∷ (1 ∷ 2 ∷ []) ∷ (2 ∷ 0 ∷ []) ∷ []) 3 3)
    -- 10. a train that stands at its goal leaves it to let another one through, and both of its steps are priced
    ∷ example siding [] overtaking 2 follow by_steps (sheet ((1 ∷ 3 ∷ 1 ∷ []) ∷ (0 ∷ 1 ∷ 2 ∷ []) ∷ []) 4 1)
    ∷ []

-- each of them yields what is expected
abbrev pub TheDefinitionsYieldEveryExample : Type 0
TheDefinitionsYieldEveryExample = All Yields table
