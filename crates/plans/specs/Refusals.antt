-- The number, the layer and the text of each refusal.
use Rattle.std.specs.Prelude.{ℕ, List, ◌++◌, codes, decimal, encode_utf8}
use Rattle.registers.specs.Registers.{fault_number}
use Rattle.plans.specs.declared.refusal.Refusal.{Refusal}
use Rattle.plans.specs.declared.refusal.Refusal.TheVariants.{RegisterOpen, SecurityAdmitted, SecuritiesFull, BadValue, NotAdmitted, OrderNumberNotAbove, OrdersFull, NotCovered, NoOrder, TradeNumberNotAbove, WrongSide, Mismatch, SameAccount, AboveRest, PriceOutside, ObligationsFull, MarginCall, AboveCollateral, NotSpared, NoObligation, LegSettled, ThirdBelow, LeavesRange, Store}
use Rattle.plans.specs.declared.layer.Layer.{Layer}
use Rattle.plans.specs.declared.layer.Layer.TheVariants as layers

abbrev pub number_of : Refusal → ℕ
number_of RegisterOpen = 1
number_of SecurityAdmitted = 3
number_of SecuritiesFull = 4
number_of BadValue = 5
number_of NotAdmitted = 7
number_of OrderNumberNotAbove = 8
number_of OrdersFull = 9
number_of NotCovered = 10
number_of NoOrder = 11
number_of TradeNumberNotAbove = 12
number_of WrongSide = 13
number_of Mismatch = 14
number_of SameAccount = 15
number_of AboveRest = 16
number_of PriceOutside = 17
number_of ObligationsFull = 18
number_of MarginCall = 19
number_of AboveCollateral = 20
number_of NotSpared = 21
number_of NoObligation = 22
number_of LegSettled = 23
number_of ThirdBelow = 24
number_of LeavesRange = 26
number_of (Store fault) = fault_number fault

-- a store's fault is the store's, every other refusal the engine's
abbrev pub layer_of : Refusal → Layer
layer_of RegisterOpen = layers.Engine
layer_of SecurityAdmitted = layers.Engine
layer_of SecuritiesFull = layers.Engine
layer_of BadValue = layers.Engine
layer_of NotAdmitted = layers.Engine
layer_of OrderNumberNotAbove = layers.Engine
layer_of OrdersFull = layers.Engine
layer_of NotCovered = layers.Engine
layer_of NoOrder = layers.Engine
layer_of TradeNumberNotAbove = layers.Engine
layer_of WrongSide = layers.Engine
layer_of Mismatch = layers.Engine
layer_of SameAccount = layers.Engine
layer_of AboveRest = layers.Engine
layer_of PriceOutside = layers.Engine
layer_of ObligationsFull = layers.Engine
layer_of MarginCall = layers.Engine
layer_of AboveCollateral = layers.Engine
layer_of NotSpared = layers.Engine
layer_of NoObligation = layers.Engine
layer_of LegSettled = layers.Engine
layer_of ThirdBelow = layers.Engine
layer_of LeavesRange = layers.Engine
layer_of (Store fault) = layers.Store

-- S, L and F
abbrev pub letter_of : Layer → ℕ
letter_of layers.Store = 83
letter_of layers.Engine = 76
letter_of layers.File = 70

abbrev pub layer_text : Layer → List ℕ
layer_text l = encode_utf8 (letter_of l)

-- a refusal's number and the letter of its layer
abbrev pub refusal_text : Refusal → List ℕ
refusal_text r = decimal (number_of r) ++ (codes " " ++ layer_text (layer_of r))
