-- The native classes: names, packages, bases and tags.
use Rattle.std.specs.Prelude.{ℕ, zero, suc, List, [], ◌∷◌, Option, Some, None, codes, if◌then◌else◌}
use Rattle.std.specs.List.{find}
use Rattle.std.specs.Str.{bytes_eq}
use Rattle.component_catalog.specs.declared.class.NativeClass.{NativeClass}
use Rattle.component_catalog.specs.declared.class.NativeClass.TheVariants as class
use Rattle.component_catalog.specs.declared.class.TagPlace.{TagPlace}
use Rattle.component_catalog.specs.declared.class.TagPlace.TheVariants.{Nowhere, Anywhere, Root, States}

-- all of them
abbrev pub classes : List NativeClass
classes =
    class.EventDispatcher
    ∷ class.UIComponent
    ∷ class.SkinnableContainer
    ∷ class.Group
    ∷ class.VGroup
    ∷ class.HGroup
    ∷ class.Application
    ∷ class.Panel
    ∷ class.Label
    ∷ class.Button
    ∷ class.ToggleButton
    ∷ class.CheckBox
    ∷ class.TextInput
    ∷ class.State
    ∷ class.Event
    ∷ class.MouseEvent
    ∷ class.FlexEvent
    ∷ []

abbrev pub name_of : NativeClass → List ℕ
name_of class.EventDispatcher = codes "EventDispatcher"
name_of class.UIComponent = codes "UIComponent"
name_of class.SkinnableContainer = codes "SkinnableContainer"
name_of class.Group = codes "Group"
name_of class.VGroup = codes "VGroup"
name_of class.HGroup = codes "HGroup"
name_of class.Application = codes "Application"
name_of class.Panel = codes "Panel"
name_of class.Label = codes "Label"
name_of class.Button = codes "Button"
name_of class.ToggleButton = codes "ToggleButton"
name_of class.CheckBox = codes "CheckBox"
name_of class.TextInput = codes "TextInput"
name_of class.State = codes "State"
name_of class.Event = codes "Event"
name_of class.MouseEvent = codes "MouseEvent"
name_of class.FlexEvent = codes "FlexEvent"

abbrev pub package_of : NativeClass → List ℕ
package_of class.EventDispatcher = codes "flash.events"
package_of class.UIComponent = codes "mx.core"
package_of class.SkinnableContainer = codes "spark.components"
package_of class.Group = codes "spark.components"
package_of class.VGroup = codes "spark.components"
package_of class.HGroup = codes "spark.components"
package_of class.Application = codes "spark.components"
package_of class.Panel = codes "spark.components"
package_of class.Label = codes "spark.components"
package_of class.Button = codes "spark.components"
package_of class.ToggleButton = codes "spark.components"
package_of class.CheckBox = codes "spark.components"
package_of class.TextInput = codes "spark.components"
package_of class.State = codes "mx.states"
package_of class.Event = codes "flash.events"
package_of class.MouseEvent = codes "flash.events"
package_of class.FlexEvent = codes "mx.events"

abbrev pub base_of : NativeClass → Option NativeClass
base_of class.EventDispatcher = None
base_of class.UIComponent = Some class.EventDispatcher
base_of class.SkinnableContainer = Some class.UIComponent
base_of class.Group = Some class.UIComponent
base_of class.VGroup = Some class.Group
base_of class.HGroup = Some class.Group
base_of class.Application = Some class.SkinnableContainer
base_of class.Panel = Some class.SkinnableContainer
base_of class.Label = Some class.UIComponent
base_of class.Button = Some class.UIComponent
base_of class.ToggleButton = Some class.UIComponent
base_of class.CheckBox = Some class.UIComponent
base_of class.TextInput = Some class.UIComponent
base_of class.State = None
base_of class.Event = None
base_of class.MouseEvent = Some class.Event
base_of class.FlexEvent = Some class.Event

abbrev pub tag_place : NativeClass → TagPlace
tag_place class.EventDispatcher = Nowhere
tag_place class.UIComponent = Nowhere
tag_place class.SkinnableContainer = Nowhere
tag_place class.Group = Anywhere
tag_place class.VGroup = Anywhere
tag_place class.HGroup = Anywhere
tag_place class.Application = Root
tag_place class.Panel = Anywhere
tag_place class.Label = Anywhere
tag_place class.Button = Anywhere
tag_place class.ToggleButton = Anywhere
tag_place class.CheckBox = Anywhere
tag_place class.TextInput = Anywhere
tag_place class.State = States
tag_place class.Event = Nowhere
tag_place class.MouseEvent = Nowhere
tag_place class.FlexEvent = Nowhere

-- a class, its base, that one's base, and so on; at most so many
abbrev pub upward : ℕ → Option NativeClass → List NativeClass
upward zero level = []
upward (suc n) None = []
upward (suc n) (Some c) = c ∷ upward n (base_of c)

-- a class and its ancestors, the nearest first: no class has more than three
abbrev pub lineage : NativeClass → List NativeClass
lineage c = upward 4 (Some c)

-- the lineage of a class that may not be there
abbrev pub lineage_from : Option NativeClass → List NativeClass
lineage_from None = []
lineage_from (Some c) = lineage c

-- the first row that there is
abbrev pub or_else : {A : Type 0} → Option A → Option A → Option A
or_else None other = other
or_else (Some row) other = Some row

-- the row of the nearest of some classes that has one
abbrev pub nearest : {A : Type 0} → (NativeClass → Option A) → List NativeClass → Option A
nearest own [] = None
nearest own (c ∷ others) = or_else (own c) (nearest own others)

-- the class of this name
abbrev pub class_named : List ℕ → Option NativeClass
class_named name = find (λ c. bytes_eq name (name_of c)) classes

-- the namespace of the native classes in documents
abbrev pub spark : List ℕ
spark = codes "library://ns.adobe.com/flex/spark"

-- the class of a tag, by its namespace and its local name
abbrev pub class_of : List ℕ → List ℕ → Option NativeClass
class_of space local = if bytes_eq space spark then class_named local else None

-- a class, where it is of a package
abbrev pub if_in : List ℕ → Option NativeClass → Option NativeClass
if_in package_name None = None
if_in package_name (Some c) = if bytes_eq (package_of c) package_name then Some c else None

-- the class of this name in a package
abbrev pub class_in : List ℕ → List ℕ → Option NativeClass
class_in package_name name = if_in package_name (class_named name)
