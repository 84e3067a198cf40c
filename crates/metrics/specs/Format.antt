-- Metrics and their lines in Prometheus' text exposition format, version 0.0.4. No text that is told here has a character
-- that the format escapes.
use Rattle.std.specs.Prelude.{ℕ, List, [], ◌∷◌, ◌++◌, codes, decimal, flat_map}
use Rattle.metrics.specs.declared.metric.Kind.{Kind}
use Rattle.metrics.specs.declared.metric.Kind.TheVariants.{Gauge, Counter}

-- a value, and the labels in braces that tell it from others of its metric; none where it is the only one
pub record Sample : Type 0 where
  pub labels : List ℕ
  pub value : ℕ

-- what is told under one name: of which kind it is, what it is for, and its values
pub record Metric : Type 0 where
  pub name : List ℕ
  pub kind : Kind
  pub help : List ℕ
  pub samples : List Sample

-- ---- words

abbrev pub sample : (labels : List ℕ) → (value : ℕ) → Sample
sample labels value = record { labels = labels; value = value }

-- a metric of a value that may go down as well as up
abbrev pub gauge : (name help : List ℕ) → (value : ℕ) → Metric
gauge name help value =
    record { name = name; kind = Gauge; help = help; samples = sample [] value ∷ [] }

-- a metric of a value that only grows
abbrev pub counter : (name help : List ℕ) → (value : ℕ) → Metric
counter name help value =
    record { name = name; kind = Counter; help = help; samples = sample [] value ∷ [] }

-- a metric of several values that only grow
abbrev pub counters : (name help : List ℕ) → List Sample → Metric
counters name help samples = record { name = name; kind = Counter; help = help; samples = samples }

-- ---- lines

abbrev pub kind_word : Kind → List ℕ
kind_word Gauge = codes "gauge"
kind_word Counter = codes "counter"

-- what a metric is for
abbrev pub help_line : (name help : List ℕ) → List ℕ
help_line name help = codes "# HELP " ++ (name ++ (codes " " ++ (help ++ codes "\n")))

-- of which kind it is
abbrev pub type_line : (name : List ℕ) → Kind → List ℕ
type_line name kind = codes "# TYPE " ++ (name ++ (codes " " ++ (kind_word kind ++ codes "\n")))

-- what stands in front of a metric's values
abbrev pub head_lines : (name : List ℕ) → Kind → (help : List ℕ) → List ℕ
head_lines name kind help = help_line name help ++ type_line name kind

-- a value, in decimal
abbrev pub sample_line : (name : List ℕ) → Sample → List ℕ
sample_line name s = name ++ (s.labels ++ (codes " " ++ (decimal s.value ++ codes "\n")))

-- THE LINES OF A METRIC: what it is for, of which kind it is, and each of its values
abbrev pub metric_lines : Metric → List ℕ
metric_lines m = head_lines m.name m.kind m.help ++ flat_map (sample_line m.name) m.samples
