-- A port, and the limit that its figures make.
use Rattle.std.specs.Prelude.{◌≡◌, ℕ, List}
use Rattle.limits.specs.declared.pair.Pair.{Pair}
use Rattle.limits.specs.declared.floor.Floor.{Floor}
use Rattle.limits.specs.declared.jitter.Jitter.{Jitter}
use Rattle.limits.specs.declared.layer.Layer.{Layer}
use Rattle.limits.specs.declared.open.Open.{Open}
use Rattle.limits.specs.declared.port.Port.{Port}
use Rattle.limits.specs.declared.share.Share.{Share}
use Rattle.limits.specs.Breach.{unless, stacked}
use Rattle.limits.specs.Rules.{above_floor, within_share, within_jitter}

-- the port has these figures
pub record HasFigures (rate share floor : ℕ) (port : Port) : Type 0 where
  pub same_rate : port.rate ≡ rate
  pub same_share : port.share ≡ share
  pub same_floor : port.floor ≡ floor

-- a floor over a share over jitter
abbrev pub PortLayers : Type 0
PortLayers = Layer Floor (Layer Share (Layer Jitter Open))

-- the layers that these figures make: a floor over a share over the jitter at a rate
abbrev pub layers_of : ℕ → ℕ → ℕ → PortLayers
layers_of rate share floor = record {
  rule = record { gap = floor };
  below = record {
    rule = record { rate = share };
    below = record { rule = record { rate = rate }; below = record {} };
  };
}

-- the limit of a port: its floor over its share over the jitter at its rate
abbrev pub port_limit : Port → PortLayers
port_limit port = layers_of port.rate port.share port.floor

-- the breach of a selection under such layers, written out for the three rules
abbrev pub layers_breach : PortLayers → List Pair → ℕ
layers_breach l s =
    stacked (unless (above_floor l.rule.gap s))
    (stacked (unless (within_share l.below.rule.rate s)) (stacked (unless (within_jitter l.below.below.rule.rate s)) 0))

-- the breach of a selection at a port
abbrev pub port_breach : Port → List Pair → ℕ
port_breach port s = layers_breach (port_limit port) s
