use Rattle.std.proofs.Common.{refl}
use Rattle.graphql_standard.proofs.Rows.{row_at}
use Rattle.graphql_standard.proofs.symbol.row_of.Goals as goal

pub returns-in-Document : goal.returns-in-Document
returns-in-Document c = row_at _ _ c.in-Document.is refl

pub returns-in-Definitions : goal.returns-in-Definitions
returns-in-Definitions c = row_at _ _ c.in-Definitions.is refl

pub returns-in-DescribedDefinitions : goal.returns-in-DescribedDefinitions
returns-in-DescribedDefinitions c = row_at _ _ c.in-DescribedDefinitions.is refl

pub returns-in-FieldsThenDefinitions : goal.returns-in-FieldsThenDefinitions
returns-in-FieldsThenDefinitions c = row_at _ _ c.in-FieldsThenDefinitions.is refl

pub returns-in-EnumValuesThenDefinitions : goal.returns-in-EnumValuesThenDefinitions
returns-in-EnumValuesThenDefinitions c = row_at _ _ c.in-EnumValuesThenDefinitions.is refl

pub returns-in-InputFieldsThenDefinitions : goal.returns-in-InputFieldsThenDefinitions
returns-in-InputFieldsThenDefinitions c = row_at _ _ c.in-InputFieldsThenDefinitions.is refl

pub returns-in-RootOperationTypesThenDefinitions : goal.returns-in-RootOperationTypesThenDefinitions
returns-in-RootOperationTypesThenDefinitions c = row_at _ _ c.in-RootOperationTypesThenDefinitions.is refl

pub returns-in-ExtensionThenDefinitions : goal.returns-in-ExtensionThenDefinitions
returns-in-ExtensionThenDefinitions c = row_at _ _ c.in-ExtensionThenDefinitions.is refl

pub returns-in-SchemaExtension : goal.returns-in-SchemaExtension
returns-in-SchemaExtension c = row_at _ _ c.in-SchemaExtension.is refl

pub returns-in-ObjectExtension : goal.returns-in-ObjectExtension
returns-in-ObjectExtension c = row_at _ _ c.in-ObjectExtension.is refl

pub returns-in-UnionExtension : goal.returns-in-UnionExtension
returns-in-UnionExtension c = row_at _ _ c.in-UnionExtension.is refl

pub returns-in-EnumExtension : goal.returns-in-EnumExtension
returns-in-EnumExtension c = row_at _ _ c.in-EnumExtension.is refl

pub returns-in-InputObjectExtension : goal.returns-in-InputObjectExtension
returns-in-InputObjectExtension c = row_at _ _ c.in-InputObjectExtension.is refl

pub returns-in-OperationName : goal.returns-in-OperationName
returns-in-OperationName c = row_at _ _ c.in-OperationName.is refl

pub returns-in-VariablesDefinition : goal.returns-in-VariablesDefinition
returns-in-VariablesDefinition c = row_at _ _ c.in-VariablesDefinition.is refl

pub returns-in-FirstVariableDefinition : goal.returns-in-FirstVariableDefinition
returns-in-FirstVariableDefinition c = row_at _ _ c.in-FirstVariableDefinition.is refl

pub returns-in-MoreVariableDefinitions : goal.returns-in-MoreVariableDefinitions
returns-in-MoreVariableDefinitions c = row_at _ _ c.in-MoreVariableDefinitions.is refl

pub returns-in-Directives : goal.returns-in-Directives
returns-in-Directives c = row_at _ _ c.in-Directives.is refl

pub returns-in-MoreDirectives : goal.returns-in-MoreDirectives
returns-in-MoreDirectives c = row_at _ _ c.in-MoreDirectives.is refl

pub returns-in-ConstDirectives : goal.returns-in-ConstDirectives
returns-in-ConstDirectives c = row_at _ _ c.in-ConstDirectives.is refl

pub returns-in-MoreConstDirectives : goal.returns-in-MoreConstDirectives
returns-in-MoreConstDirectives c = row_at _ _ c.in-MoreConstDirectives.is refl

pub returns-in-SomeConstDirectives : goal.returns-in-SomeConstDirectives
returns-in-SomeConstDirectives c = row_at _ _ c.in-SomeConstDirectives.is refl

pub returns-in-Arguments : goal.returns-in-Arguments
returns-in-Arguments c = row_at _ _ c.in-Arguments.is refl

pub returns-in-FirstArgument : goal.returns-in-FirstArgument
returns-in-FirstArgument c = row_at _ _ c.in-FirstArgument.is refl

pub returns-in-MoreArguments : goal.returns-in-MoreArguments
returns-in-MoreArguments c = row_at _ _ c.in-MoreArguments.is refl

pub returns-in-ConstArguments : goal.returns-in-ConstArguments
returns-in-ConstArguments c = row_at _ _ c.in-ConstArguments.is refl

pub returns-in-FirstConstArgument : goal.returns-in-FirstConstArgument
returns-in-FirstConstArgument c = row_at _ _ c.in-FirstConstArgument.is refl

pub returns-in-MoreConstArguments : goal.returns-in-MoreConstArguments
returns-in-MoreConstArguments c = row_at _ _ c.in-MoreConstArguments.is refl

pub returns-in-Value : goal.returns-in-Value
returns-in-Value c = row_at _ _ c.in-Value.is refl

pub returns-in-MoreValues : goal.returns-in-MoreValues
returns-in-MoreValues c = row_at _ _ c.in-MoreValues.is refl

pub returns-in-MoreObjectFields : goal.returns-in-MoreObjectFields
returns-in-MoreObjectFields c = row_at _ _ c.in-MoreObjectFields.is refl

pub returns-in-ConstValue : goal.returns-in-ConstValue
returns-in-ConstValue c = row_at _ _ c.in-ConstValue.is refl

pub returns-in-MoreConstValues : goal.returns-in-MoreConstValues
returns-in-MoreConstValues c = row_at _ _ c.in-MoreConstValues.is refl

pub returns-in-MoreConstObjectFields : goal.returns-in-MoreConstObjectFields
returns-in-MoreConstObjectFields c = row_at _ _ c.in-MoreConstObjectFields.is refl

pub returns-in-Type : goal.returns-in-Type
returns-in-Type c = row_at _ _ c.in-Type.is refl

pub returns-in-NonNull : goal.returns-in-NonNull
returns-in-NonNull c = row_at _ _ c.in-NonNull.is refl

pub returns-in-DefaultValue : goal.returns-in-DefaultValue
returns-in-DefaultValue c = row_at _ _ c.in-DefaultValue.is refl

pub returns-in-SelectionSet : goal.returns-in-SelectionSet
returns-in-SelectionSet c = row_at _ _ c.in-SelectionSet.is refl

pub returns-in-OptionalSelectionSet : goal.returns-in-OptionalSelectionSet
returns-in-OptionalSelectionSet c = row_at _ _ c.in-OptionalSelectionSet.is refl

pub returns-in-FirstSelection : goal.returns-in-FirstSelection
returns-in-FirstSelection c = row_at _ _ c.in-FirstSelection.is refl

pub returns-in-MoreSelections : goal.returns-in-MoreSelections
returns-in-MoreSelections c = row_at _ _ c.in-MoreSelections.is refl

pub returns-in-AliasedName : goal.returns-in-AliasedName
returns-in-AliasedName c = row_at _ _ c.in-AliasedName.is refl

pub returns-in-Fragment : goal.returns-in-Fragment
returns-in-Fragment c = row_at _ _ c.in-Fragment.is refl

pub returns-in-FragmentName : goal.returns-in-FragmentName
returns-in-FragmentName c = row_at _ _ c.in-FragmentName.is refl

pub returns-in-RootOperationTypes : goal.returns-in-RootOperationTypes
returns-in-RootOperationTypes c = row_at _ _ c.in-RootOperationTypes.is refl

pub returns-in-FirstRootOperationType : goal.returns-in-FirstRootOperationType
returns-in-FirstRootOperationType c = row_at _ _ c.in-FirstRootOperationType.is refl

pub returns-in-MoreRootOperationTypes : goal.returns-in-MoreRootOperationTypes
returns-in-MoreRootOperationTypes c = row_at _ _ c.in-MoreRootOperationTypes.is refl

pub returns-in-ImplementsInterfaces : goal.returns-in-ImplementsInterfaces
returns-in-ImplementsInterfaces c = row_at _ _ c.in-ImplementsInterfaces.is refl

pub returns-in-FirstInterface : goal.returns-in-FirstInterface
returns-in-FirstInterface c = row_at _ _ c.in-FirstInterface.is refl

pub returns-in-MoreInterfaces : goal.returns-in-MoreInterfaces
returns-in-MoreInterfaces c = row_at _ _ c.in-MoreInterfaces.is refl

pub returns-in-FirstFieldDefinition : goal.returns-in-FirstFieldDefinition
returns-in-FirstFieldDefinition c = row_at _ _ c.in-FirstFieldDefinition.is refl

pub returns-in-MoreFieldDefinitions : goal.returns-in-MoreFieldDefinitions
returns-in-MoreFieldDefinitions c = row_at _ _ c.in-MoreFieldDefinitions.is refl

pub returns-in-ArgumentsDefinition : goal.returns-in-ArgumentsDefinition
returns-in-ArgumentsDefinition c = row_at _ _ c.in-ArgumentsDefinition.is refl

pub returns-in-FirstArgumentDefinition : goal.returns-in-FirstArgumentDefinition
returns-in-FirstArgumentDefinition c = row_at _ _ c.in-FirstArgumentDefinition.is refl

pub returns-in-MoreArgumentDefinitions : goal.returns-in-MoreArgumentDefinitions
returns-in-MoreArgumentDefinitions c = row_at _ _ c.in-MoreArgumentDefinitions.is refl

pub returns-in-FirstInputField : goal.returns-in-FirstInputField
returns-in-FirstInputField c = row_at _ _ c.in-FirstInputField.is refl

pub returns-in-MoreInputFields : goal.returns-in-MoreInputFields
returns-in-MoreInputFields c = row_at _ _ c.in-MoreInputFields.is refl

pub returns-in-UnionMemberTypes : goal.returns-in-UnionMemberTypes
returns-in-UnionMemberTypes c = row_at _ _ c.in-UnionMemberTypes.is refl

pub returns-in-FirstMemberType : goal.returns-in-FirstMemberType
returns-in-FirstMemberType c = row_at _ _ c.in-FirstMemberType.is refl

pub returns-in-MoreMemberTypes : goal.returns-in-MoreMemberTypes
returns-in-MoreMemberTypes c = row_at _ _ c.in-MoreMemberTypes.is refl

pub returns-in-FirstEnumValue : goal.returns-in-FirstEnumValue
returns-in-FirstEnumValue c = row_at _ _ c.in-FirstEnumValue.is refl

pub returns-in-MoreEnumValues : goal.returns-in-MoreEnumValues
returns-in-MoreEnumValues c = row_at _ _ c.in-MoreEnumValues.is refl

pub returns-in-EnumValue : goal.returns-in-EnumValue
returns-in-EnumValue c = row_at _ _ c.in-EnumValue.is refl

pub returns-in-Repeatable : goal.returns-in-Repeatable
returns-in-Repeatable c = row_at _ _ c.in-Repeatable.is refl

pub returns-in-DirectiveLocations : goal.returns-in-DirectiveLocations
returns-in-DirectiveLocations c = row_at _ _ c.in-DirectiveLocations.is refl

pub returns-in-MoreDirectiveLocations : goal.returns-in-MoreDirectiveLocations
returns-in-MoreDirectiveLocations c = row_at _ _ c.in-MoreDirectiveLocations.is refl

pub returns-in-DirectiveLocation : goal.returns-in-DirectiveLocation
returns-in-DirectiveLocation c = row_at _ _ c.in-DirectiveLocation.is refl

pub returns-in-Name : goal.returns-in-Name
returns-in-Name c = row_at _ _ c.in-Name.is refl

pub returns-in-On : goal.returns-in-On
returns-in-On c = row_at _ _ c.in-On.is refl

pub returns-in-Colon : goal.returns-in-Colon
returns-in-Colon c = row_at _ _ c.in-Colon.is refl

pub returns-in-Dollar : goal.returns-in-Dollar
returns-in-Dollar c = row_at _ _ c.in-Dollar.is refl

pub returns-in-At : goal.returns-in-At
returns-in-At c = row_at _ _ c.in-At.is refl

pub returns-in-CloseBracket : goal.returns-in-CloseBracket
returns-in-CloseBracket c = row_at _ _ c.in-CloseBracket.is refl
